-- Statuses, their codes and their lines.
use Rattle.std.specs.Prelude.{ℕ, List, [], ◌++◌, codes, decimal}
use Rattle.redn_top.specs.declared.status.TextFault.{TextFault}
use Rattle.redn_top.specs.declared.status.TextFault.TheVariants.{Byte, Nesting, Line}
use Rattle.redn_top.specs.declared.status.ImageFault.{ImageFault}
use Rattle.redn_top.specs.declared.status.ImageFault.TheVariants.{Magic, Version, Short, Trailing, Rule}
use Rattle.redn_top.specs.declared.status.MessageFault.{MessageFault}
use Rattle.redn_top.specs.declared.status.MessageFault.TheVariants.{NoChain, Twice, BadHex, Length}
use Rattle.redn_top.specs.declared.status.Status.{Status}
use Rattle.redn_top.specs.declared.status.Status.TheVariants.{Done, Words, ReadFailed, Missing, WriteFailed, Long, Text, Program, Image, Memory, Schedule, Step, Message}

abbrev pub code_of : Status → ℕ
code_of Done = 0
code_of Words = 2
code_of ReadFailed = 3
code_of WriteFailed = 4
code_of (Long seen limit) = 5
code_of (Text fault) = 6
code_of (Program rule at seen) = 7
code_of (Image fault) = 8
code_of Memory = 9
code_of (Schedule line) = 10
code_of (Step line) = 11
code_of (Message fault) = 12
code_of Missing = 16

abbrev pub text_fault : TextFault → List ℕ
text_fault (Byte at) = codes "byte " ++ decimal at
text_fault (Nesting at) = codes "nesting at byte " ++ decimal at
text_fault (Line line) = codes "line " ++ decimal line

abbrev pub image_fault : ImageFault → List ℕ
image_fault Magic = codes "magic"
image_fault (Version v) = codes "version " ++ decimal v
image_fault (Short need) = codes "short " ++ decimal need
image_fault (Trailing n) = codes "trailing " ++ decimal n
image_fault (Rule number index) = codes "rule " ++ decimal number ++ codes " at " ++ decimal index

abbrev pub message_fault : MessageFault → List ℕ
message_fault (NoChain chain) = codes "no chain " ++ decimal chain
message_fault (Twice chain) = codes "chain " ++ decimal chain ++ codes " twice"
message_fault (BadHex chain) = codes "chain " ++ decimal chain ++ codes " bad hex"
message_fault (Length chain got want) = codes "chain " ++ decimal chain ++ codes " has " ++ decimal got ++ codes " bytes, wants " ++ decimal want

-- the line for standard error, which is nothing where all was done
abbrev pub status_text : Status → List ℕ
status_text Done = []
status_text Words = codes "redn: words refused\n"
status_text ReadFailed = codes "redn: read failed\n"
status_text WriteFailed = codes "redn: write failed\n"
status_text (Long seen limit) = codes "redn: file too long: limit " ++ decimal limit ++ codes "\n"
status_text (Text fault) = codes "redn: text refused: " ++ text_fault fault ++ codes "\n"
status_text (Program rule at seen) = codes "redn: program refused: rule " ++ decimal rule ++ codes " at byte " ++ decimal at ++ codes "\n"
status_text (Image fault) = codes "redn: image refused: " ++ image_fault fault ++ codes "\n"
status_text Memory = codes "redn: out of memory\n"
status_text (Schedule line) = codes "redn: schedule refused: line " ++ decimal line ++ codes "\n"
status_text (Step line) = codes "redn: step not possible: line " ++ decimal line ++ codes "\n"
status_text (Message fault) = codes "redn: message refused: " ++ message_fault fault ++ codes "\n"
status_text Missing = codes "redn: file missing\n"
