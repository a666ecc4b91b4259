-- Accesses to a word are those of a register.
use Rattle.std.proofs.Common.{◌≡◌, ℕ, inl, inr, Bool, true, false, if◌then◌else◌, List, [], ◌∷◌}
use Rattle.std.proofs.Common.{◌++◌, refl, ap, subst, ◌∙◌}
use Rattle.std.specs.Prelude.{◌==◌}
use Rattle.std.specs.List.{AllByRecursion as Each}
use Rattle.std.proofs.lemmas.Bool.{both_ways, eq-eqb}
use Rattle.ivy_model.specs.declared.config.Config.{Config}
use Rattle.ivy_model.specs.declared.call.Call.{Call}
use Rattle.ivy_model.specs.declared.call.CallKind.{CallKind}
use Rattle.ivy_model.specs.declared.call.CallKind.TheVariants.{Word, Count, Advance, Await, Alloc}
use Rattle.ivy_model.specs.declared.call.CallKind.TheVariants.{Free}
use Rattle.ivy_model.specs.declared.call.Record.{Record}
use Rattle.ivy_model.specs.declared.call.Reply.TheVariants.{Value}
use Rattle.ivy_model.specs.stated.Accesses.{kind_of_call}
use Rattle.ivy_model.specs.stated.Explains.{part}
use Rattle.ivy_model.specs.stated.Memory.{Memory}
use Rattle.ivy_model.proofs.Sizes.{serves_sized}
use Rattle.ivy_calls.specs.declared.answer.Answer.{Answer}
use Rattle.ivy_calls.specs.Answers.{answers, answers_of}
use Rattle.ivy_sync.specs.excluding.Registers.{ReadsTheLast, accesses, WordsAreRegisters}
use Rattle.ivy_sync.specs.HeapWords.{word, IsHeapWord, puts, is_access_in, is_access_in_kind}
use Rattle.ivy_sync.specs.HeapWords.{is_write_in}
use Rattle.ivy_sync.specs.HeapWords.{is_write_in_kind, NoWrite, IsWhole, Reads, word_after, last}
use Rattle.ivy_sync.specs.HeapWords.{LeadsThrough}
use Rattle.ivy_sync.proofs.answers.Cuts.{OwnOr}
use Rattle.ivy_sync.proofs.answers.HeapWords.{word_step, read_step, word_last, written_quiet}

-- what is no access writes nothing
never : (b : Bool) → (if b then false else false) ≡ false
never true = refl
never false = refl

no_write_kind : (a : ℕ) (kind : CallKind) → is_access_in_kind a kind ≡ false
    → is_write_in_kind a kind ≡ false
no_write_kind a (Word width addr does) q =
    ap (λ i. if puts does then i else false) q ∙ never (puts does)
no_write_kind a (Count j) q = refl
no_write_kind a (Advance j) q = refl
no_write_kind a (Await j least) q = refl
no_write_kind a (Alloc size) q = refl
no_write_kind a (Free addr) q = refl

pub no_write : (a : ℕ) (call : Call) → is_access_in a call ≡ false → is_write_in a call ≡ false
no_write a call q = no_write_kind a (kind_of_call call) q

pub reads_all : (c : Config) (old new : Memory) (order : List Record) (a : ℕ)
    → LeadsThrough c old order new → IsHeapWord c a → Each (λ (r : Answer). IsWhole a r.call)
    (answers order)
    → ReadsTheLast a (word c old a) (answers order)
reads_all c old new [] a run at whole = tt
reads_all c old new (r ∷ rs) a run at whole =
    let made = run.led.1 in
    let sized =
    serves_sized c old run.led.0 r.call r.reply run.config made.width run.sized made.served in (
      λ reads. read_step c old run.led.0 a r.call r.reply at reads made.served,
      subst (λ v. ReadsTheLast a v (answers rs))
          (word_step c old run.led.0 a r.call r.reply run.config run.sized at made.width whole.0
          made.served)
          (reads_all c run.led.0 new rs a
          (record { config = run.config; sized = sized; led = run.led.2 }) at whole.1),
    )

last_one : (a v : ℕ) (r : Answer) (rs : List Answer) (b : Bool) → is_access_in a r.call ≡ b
    → last a (word_after a v r.call) (accesses a rs)
    ≡ last a v (if b then r ∷ accesses a rs else accesses a rs)
last_one a v r rs true is = refl
last_one a v r rs false is =
    ap (λ u. last a u (accesses a rs)) (written_quiet a v r.call (no_write a r.call is))

pub last-accesses : (a v : ℕ) (rs : List Answer) → last a v rs ≡ last a v (accesses a rs)
last-accesses a v [] = refl
last-accesses a v (r ∷ rs) =
    last-accesses a (word_after a v r.call) rs ∙ last_one a v r rs (is_access_in a r.call) refl

reads_one : (a v : ℕ) (r : Answer) (rs : List Answer) (b : Bool) → is_access_in a r.call ≡ b
    → (Reads a r.call → r.reply ≡ Value v) → ReadsTheLast a (word_after a v r.call) (accesses a rs)
    → ReadsTheLast a v (if b then r ∷ accesses a rs else accesses a rs)
reads_one a v r rs true is here rest = (here, rest)
reads_one a v r rs false is here rest =
    subst (λ u. ReadsTheLast a u (accesses a rs))
    (written_quiet a v r.call (no_write a r.call is)) rest

pub reads_accesses : (a v : ℕ) (rs : List Answer) → ReadsTheLast a v rs
    → ReadsTheLast a v (accesses a rs)
reads_accesses a v [] h = tt
reads_accesses a v (r ∷ rs) h =
    reads_one a v r rs (is_access_in a r.call) refl h.0
    (reads_accesses a (word_after a v r.call) rs h.1)

pub words-are_registers : WordsAreRegisters
words-are_registers c old new order a run at whole = (
  word_last c old new a order run at whole ∙ last-accesses a (word c old a) (answers order),
  reads_accesses a (word c old a) (answers order) (reads_all c old new order a run at whole),
)

pub last-append : (a v : ℕ) (xs ys : List Answer)
    → last a v (xs ++ ys) ≡ last a (last a v xs) ys
last-append a v [] ys = refl
last-append a v (x ∷ xs) ys = last-append a (word_after a v x.call) xs ys

pub last-none : (a v : ℕ) (rs : List Answer) → NoWrite a rs → last a v rs ≡ v
last-none a v [] h = refl
last-none a v (r ∷ rs) h =
    ap (λ u. last a u rs) (written_quiet a v r.call h.0) ∙ last-none a v rs h.1

-- where only node i writes, its answers alone tell what is there
last_step : (a i v : ℕ) (r : Record) (rs : List Record) (b : Bool) → (r.node == i) ≡ b
    → OwnOr i (λ q. is_write_in a q.call ≡ false) r
    → last a (word_after a v r.call) (answers_of i rs)
    ≡ last a v (answers (if b then r ∷ part i rs else part i rs))
last_step a i v r rs true is h = refl
last_step a i v r rs false is (inl own) = absurd (both_ways (r.node == i) is (eq-eqb r.node i own))
last_step a i v r rs false is (inr quiet) =
    ap (λ u. last a u (answers_of i rs)) (written_quiet a v r.call quiet)

pub last_part : (a i v : ℕ) (rs : List Record)
    → Each (OwnOr i (λ q. is_write_in a q.call ≡ false)) rs
    → last a v (answers rs) ≡ last a v (answers_of i rs)
last_part a i v [] h = refl
last_part a i v (r ∷ rs) h =
    last_part a i (word_after a v r.call) rs h.1 ∙ last_step a i v r rs (r.node == i) refl h.0

-- where nothing is written, all reads are answered alike
pub reads_same : (a v : ℕ) (rs : List Answer) → NoWrite a rs
    → ReadsTheLast a v rs → Each (λ (r : Answer). Reads a r.call → r.reply ≡ Value v) rs
reads_same a v [] quiet h = tt
reads_same a v (r ∷ rs) quiet h = (
  h.0,
  reads_same a v rs quiet.1
      (subst (λ u. ReadsTheLast a u rs) (written_quiet a v r.call quiet.0) h.1),
)
