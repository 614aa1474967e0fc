-- How the reader tells faults. This is no part of what a text means.
use Rattle.smol_text.specs.declared.text_fault.TextFault.{TextFault}
use Rattle.smol_text.specs.declared.text_fault.TextFault.TheVariants as text
use Rattle.smol_types.specs.declared.fault.Kind.TheVariants as kind
use Rattle.smol_types.specs.declared.fault.ConfigFault.{ConfigFault}
use Rattle.smol_types.specs.declared.fault.ConfigFault.TheVariants as fault

-- why a text isn't split into lines
abbrev pub lines_told : TextFault → ConfigFault
lines_told (text.BadByte line) = fault.At line kind.BadByte
lines_told (text.OpenComment line) = fault.At line kind.OpenComment
lines_told text.TooManyLines = fault.At 65537 kind.TooMany
lines_told text.OutOfMemory = fault.OutOfMemory
