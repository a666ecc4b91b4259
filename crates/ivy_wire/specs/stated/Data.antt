-- The messages, with their pages as lists of bytes.
use Rattle.std.specs.Prelude.{ℕ, List}
use Rattle.ivy_wire.specs.declared.frame.Content as content
use Rattle.ivy_wire.specs.declared.frame.Message as message
use Rattle.ivy_wire.specs.declared.frame.Frame as frame
use Rattle.ivy_wire.specs.declared.parcel.Parcel as parcel

abbrev pub Content : Type 0
Content = content.Content (List ℕ)

abbrev pub Message : Type 0
Message = message.Message (List ℕ)

abbrev pub Frame : Type 0
Frame = frame.Frame (List ℕ)

abbrev pub Parcel : Type 0
Parcel = parcel.Parcel (List ℕ)
