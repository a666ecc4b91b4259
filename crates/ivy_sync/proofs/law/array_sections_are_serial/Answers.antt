use Rattle.ivy_sync.proofs.excluding.ArraySections.{array_sections-are_serial}
use Rattle.ivy_sync.proofs.law.array_sections_are_serial.Goals as goal

pub returns : goal.returns
returns c = array_sections-are_serial
