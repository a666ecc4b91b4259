-- What the words and the refusals of a node's memory are to the flat memory.
use Rattle.std.specs.Prelude.{◌≡◌, ◌≢◌, ◌<◌, ℕ, Option, Some, None}
use Rattle.ivy_model.specs.declared.Config.{Config}
use Rattle.ivy_model.specs.declared.Call.{Call}
use Rattle.ivy_model.specs.declared.Reply.{Reply}
use Rattle.ivy_model.specs.declared.Reply.TheVariants.{Refused}
use Rattle.ivy_model.specs.stated.Config.{IsConfig}
use Rattle.ivy_model.specs.stated.Legal.{HasWidth}
use Rattle.ivy_model.specs.Memory.{IsSized, flat_page}
use Rattle.ivy_model.specs.stated.Memory as model
use Rattle.ivy_model.specs.stated.Serves.{Serves}
use Rattle.ivy_pagetable.specs.declared.Word.{Word}
use Rattle.ivy_pagetable.specs.stated.Words.{Carried, carried_out}
use Rattle.ivy_memory.specs.declared.memory.Asked.TheVariants as asked
use Rattle.ivy_memory.specs.stated.Asking.{asked_of}
use Rattle.ivy_memory.specs.stated.Memories.{reply_of}

-- the flat memory answers the call with this reply and goes on; without a reply it stays as it is
abbrev pub Answers : Config → model.Memory → Call → Option Reply → model.Memory → Type 0
Answers c old call None new = new ≡ old
Answers c old call (Some r) new = Serves c old call r new

-- the call is what carrying a word out on this page came to: its reply, and the bytes of the page;
-- all else stays
pub record IsServed (c : Config) (old : model.Memory) (call : Call) (page : ℕ)
    (came : Carried) : Type 0 where
  pub new : model.Memory
  pub answers : Answers c old call (reply_of came.out) new
  pub here : flat_page c new page ≡ came.bytes
  pub others : (q : ℕ) → q < c.pages → q ≢ page → flat_page c new q ≡ flat_page c old q
  pub blocks : new.blocks ≡ old.blocks

-- a call that is a word of a page is that word, carried out on the page of the flat memory
abbrev pub WordsAreFlat : Type 0
WordsAreFlat = (c : Config) (m : model.Memory) (call : Call) (page : ℕ) (w : Word)
    → IsConfig c → IsSized c m → HasWidth call → asked_of c call ≡ asked.Word page w
    → IsServed c m call page (carried_out w (flat_page c m page))

-- a call that is refused at once the flat memory refuses, and by the same number
abbrev pub RefusalsAreFlat : Type 0
RefusalsAreFlat = (c : Config) (m : model.Memory) (call : Call) (code : ℕ)
    → IsSized c m → asked_of c call ≡ asked.Refused code → Serves c m call (Refused code) m
