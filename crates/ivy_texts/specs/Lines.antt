-- Lines that are printed of a node, and of an order.
use Rattle.std.specs.Prelude.{ℕ, Bool, List, [], ◌∷◌, ◌++◌, codes, decimal, if◌then◌else◌}
use Rattle.ivy_wire.specs.declared.FrameKind.{FrameKind}
use Rattle.ivy_wire.specs.declared.FrameKind.TheVariants.{Ack, ReadReq, WriteReq, ReadRep, WriteRep, Inval, InvalAck, AllocReq, AllocRep, FreeReq, FreeRep}
use Rattle.ivy_texts.specs.Printed.{then_number}

-- the name of a kind of frame
abbrev pub kind_text : FrameKind → List ℕ
kind_text Ack = codes "Ack"
kind_text ReadReq = codes "ReadReq"
kind_text WriteReq = codes "WriteReq"
kind_text ReadRep = codes "ReadRep"
kind_text WriteRep = codes "WriteRep"
kind_text Inval = codes "Inval"
kind_text InvalAck = codes "InvalAck"
kind_text AllocReq = codes "AllocReq"
kind_text AllocRep = codes "AllocRep"
kind_text FreeReq = codes "FreeReq"
kind_text FreeRep = codes "FreeRep"

-- the line of a value that the program of a node printed
abbrev pub value_line : ℕ → ℕ → List ℕ
value_line node value = codes "node" ++ then_number node ++ codes ": " ++ decimal value ++ 10 ∷ []

-- the line that says whether the program of a node has ended
abbrev pub end_line : ℕ → Bool → List ℕ
end_line node ended =
    codes "node" ++ then_number node ++ codes " "
    ++ (if ended then codes "ended" else codes "open") ++ 10 ∷ []

-- the line that says whether an order is legal
abbrev pub verdict_line : Bool → List ℕ
verdict_line legal = (if legal then codes "legal" else codes "not legal") ++ 10 ∷ []
