pub mod Test48
pub mod Probe
pub mod Test64
mod Worked
pub mod LowWithoutCas
pub mod WideWithoutCas
pub mod LookWithoutCas
