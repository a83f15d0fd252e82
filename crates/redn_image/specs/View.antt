use Rattle.std.specs.Prelude.{ℕ, ◌<◌, All}
use Rattle.redn_image.specs.Rules.{Image as Parts, Obeys}
use Rattle.redn_image.specs.declared.image.Image.TheInside.{Inside}

-- the lists of an image
abbrev pub image_view : Inside → Parts
image_view a = record { regions = a.regions.items; queues = a.queues.items; receives = a.receives.items; memory = a.memory.items }

-- it keeps the rules, and its memory is of bytes
pub record IsImage (a : Inside) : Type 0 where
  pub obeys : Obeys (image_view a)
  pub bytes : All (λ (b : ℕ). b < 256) a.memory.items
