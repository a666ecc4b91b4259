-- What the allocator's answers have to do with the flat memory, and with one another.
use Rattle.std.specs.Prelude.{◌≡◌}
use Rattle.ivy_model.specs.declared.call.Reply.{Reply}
use Rattle.ivy_model.specs.declared.call.Reply.TheVariants.{Value, Done, Refused}
use Rattle.ivy_model.specs.declared.fault.Fault.TheVariants.{NotABlock}
use Rattle.ivy_model.specs.stated.Numbers.{fault_number}

-- done, or the refusal 10
abbrev pub IsFreeReply : Reply → Type 0
IsFreeReply (Value value) = ⊥
IsFreeReply Done = Unit {0}
IsFreeReply (Refused code) = code ≡ fault_number NotABlock
