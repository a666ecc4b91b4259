-- The record that stands in the order of all records before its node has it, and what an event of a
-- node adds to the order.
use Rattle.std.proofs.Common.{◌≡◌, ◌≢◌, ◌⊎◌, inl, inr, ◌<◌, ℕ, true, false, List, [], ◌∷◌, ◌++◌, Option, Some, None, refl, ap, sym, ◌∙◌, subst}
use Rattle.std.proofs.lemmas.List.{append-nil, append_assoc}
use Rattle.std.proofs.lemmas.Option.{same_Some, none-some}
use Rattle.ivy_model.specs.declared.Config.{Config}
use Rattle.ivy_model.specs.declared.Call.{Call}
use Rattle.ivy_model.specs.declared.Record.{Record}
use Rattle.ivy_model.specs.declared.Reply.{Reply}
use Rattle.ivy_model.specs.stated.Memory.{Blocks}
use Rattle.ivy_model.specs.Memory.{flat_page}
use Rattle.ivy_model.specs.stated.Memory as model
use Rattle.ivy_model.specs.stated.Legal.{HasWidth, ServesAll}
use Rattle.ivy_model.specs.stated.Explains.{part}
use Rattle.ivy_model.proofs.OrderParts.{part-own, part-other, part-append}
use Rattle.ivy_pagetable.specs.declared.Entry.{Entry}
use Rattle.ivy_pagetable.specs.declared.Word.{Word}
use Rattle.ivy_pagetable.specs.declared.Out.TheVariants as out
use Rattle.ivy_pagetable.specs.stated.Words.{width_of, offset_of, number_at, carried_out}
use Rattle.ivy_pagetable.proofs.Words.{not_yet}
use Rattle.ivy_pagetable.specs.stated.Tables.{entry_at}
use Rattle.ivy_program.specs.stated.ProgramRuns.{IsRunTo}
use Rattle.ivy_program.specs.stated.InstructionSteps.{after_reply, answered_with, AsksRow}
use Rattle.ivy_moves.specs.stated.Explained.{StandTogether}
use Rattle.ivy_wire.specs.stated.Data.{Message}
use Rattle.ivy_pagetable.specs.declared.Out.{Out}
use Rattle.ivy_alloc.specs.stated.Heap.{HeapState}
use Rattle.ivy_alloc.specs.stated.HeapAnswers.{BlocksTold}
use Rattle.ivy_memory.specs.declared.Asked.TheVariants as asked
use Rattle.ivy_alloc.specs.declared.HeapRequest.{HeapRequest}
use Rattle.ivy_alloc.specs.declared.HeapRequest.TheVariants as heap_request
use Rattle.ivy_memory.specs.stated.Asking.{asked_of}
use Rattle.ivy_alloc.specs.stated.HeapCalls.{after_told, reply_told}
use Rattle.ivy_memory.specs.stated.Memories.{NodeMemory, first_reply, reply_of, reply_there, taken_with, taken_out}
use Rattle.ivy_memory.specs.stated.Beside.{gives_reply}
use Rattle.ivy_host.specs.stated.Hosts.{Host, number_of, recorded}
use Rattle.proof_worlds.specs.stated.HeapRequests.{replied_by}
use Rattle.proof_worlds.specs.consistency.Alone.{AreAlone}
use Rattle.proof_worlds.proofs.refinement.LiftedEvents.{WaitsAt}
use Rattle.ivy_memory.specs.Flat.{Answers}

-- of the call in progress, once its reply is there
abbrev pub owed : ℕ → Option Call → Option Reply → List Record
owed me None r = []
owed me (Some c) None = []
owed me (Some c) (Some r) = record { node = me; call = c; reply = r } ∷ []

-- The reply that the flat memory gave: node 0 was asked for it and has answered, with these
-- messages of the heap on their way from there, or a word that waited was carried out.
abbrev pub reply_owed : Option HeapRequest → List Message → Option Out → Option Reply
reply_owed e ms d = first_reply (replied_by e ms) (reply_there d)

-- of the calls made along with it, whose words were carried out with its word
abbrev pub owed_along : ℕ → List Call → List Out → List Record
owed_along me [] outs = []
owed_along me (call ∷ calls) [] = []
owed_along me (call ∷ calls) (o ∷ outs) =
    owed me (Some call) (reply_of o) ++ owed_along me calls outs

abbrev pub owed_then : ℕ → List Call → Option Out → List Out → List Record
owed_then me calls None outs = []
owed_then me calls (Some o) outs = owed_along me calls outs

abbrev pub along_owed : {S : Type 0} → Host S → List Record
along_owed n =
    owed_then (number_of n) n.memory.along n.memory.coherence.done n.memory.coherence.done_more

abbrev pub pending : {S : Type 0} → Host S → List Message → List Record
pending n ms =
    owed (number_of n) n.memory.asked (reply_owed n.memory.side.heap_request ms n.memory.coherence.done)
    ++ along_owed n

pub then-alone : (me : ℕ) (calls : List Call) (d : Option Out) (outs : List Out) → calls ≡ []
    → owed_then me calls d outs ≡ []
then-alone me calls None outs alone = refl
then-alone me calls (Some o) outs alone = ap (λ ks. owed_along me ks outs) alone

pub then-untold : (me : ℕ) (calls : List Call) (d : Option Out) (outs : List Out) → d ≡ None
    → owed_then me calls d outs ≡ []
then-untold me calls d outs untold = ap (λ x. owed_then me calls x outs) untold

-- nothing is owed where neither part is
pub none_pending : (a b : List Record) → a ≡ [] → b ≡ [] → a ++ b ≡ []
none_pending a b first second = ap (λ xs. xs ++ b) first ∙ second

-- a word's answer is a reply
abbrev pub IsReply : Out → Type 0
IsReply o = (r : Reply) × (reply_of o ≡ Some r)

-- so is that of each of the calls made along
abbrev pub HaveReplies : List Call → List Out → Type 0
HaveReplies [] outs = Unit {0}
HaveReplies (call ∷ calls) [] = ⊥
HaveReplies (call ∷ calls) (o ∷ outs) = IsReply o × HaveReplies calls outs

-- the words are those of the calls, of one page, and each has its reply as soon as it is carried out
abbrev pub AreWordsOf : Config → ℕ → List Call → List Word → Type 0
AreWordsOf c page [] [] = Unit {0}
AreWordsOf c page (call ∷ calls) (word ∷ words) =
    (asked_of c call ≡ asked.Word page word) × (gives_reply word ≡ true)
    × AreWordsOf c page calls words
AreWordsOf c page calls words = ⊥

-- a reply that is there is owed
pub told-owed : (e : Option HeapRequest) (ms : List Message) (d : Option Out) (r : Reply)
    → ((y : HeapRequest) → e ≡ Some y → d ≡ None) → first_reply (reply_told e) (reply_there d) ≡ Some r
    → reply_owed e ms d ≡ Some r
told-owed None ms d r apart is = is
told-owed (Some (heap_request.Told s)) ms d r apart is = is
told-owed (Some (heap_request.Asked k number)) ms d r apart is =
    absurd (none-some r (ap reply_there (sym (apart (heap_request.Asked k number) refl)) ∙ is))

pub owed-unasked : (me : ℕ) (o : Option Call) (r : Option Reply) → o ≡ None → owed me o r ≡ []
owed-unasked me None r e = refl
owed-unasked me (Some c) r e = absurd (none-some c (sym e))

pub owed-untold : (me : ℕ) (o : Option Call) (r : Option Reply) → r ≡ None → owed me o r ≡ []
owed-untold me None r e = refl
owed-untold me (Some c) None e = refl
owed-untold me (Some c) (Some x) e = absurd (none-some x (sym e))

-- the flat memory makes it, and it is the node's
pub owed-leads : (c : Config) (old new : model.Memory) (me : ℕ) (called : Call) (o : Option Reply)
    → me < c.nodes → HasWidth called → Answers c old called o new
    → ServesAll c old (owed me (Some called) o) new
owed-leads c old new me called None here width answers = answers
owed-leads c old new me called (Some r) here width answers =
    (new, record { node = here; width = width; served = answers }, refl)

pub owed-own : (me i : ℕ) (called : Call) (o : Option Reply) → me ≡ i
    → part i (owed me (Some called) o) ≡ owed me (Some called) o
owed-own me i called None same = refl
owed-own me i called (Some r) same =
    part-own i (record { node = me; call = called; reply = r }) same

pub owed-other : (me i j : ℕ) (called : Call) (o : Option Reply) → me ≡ i → j ≢ i
    → part j (owed me (Some called) o) ≡ []
owed-other me i j called None same ne = refl
owed-other me i j called (Some r) same ne =
    part-other j (record { node = me; call = called; reply = r }) (λ e. ne (sym e ∙ same))

-- a record goes from what is owed, or from the call, to the history
pub told_history : (history owes : List Record) (r : Record) → owes ≡ r ∷ []
    → (history ++ r ∷ []) ++ [] ≡ history ++ owes
told_history history owes r e = append-nil (history ++ r ∷ []) ∙ ap (λ xs. history ++ xs) (sym e)

pub served_history : (history owes now : List Record) (r : Record) → owes ≡ [] → now ≡ []
    → (history ++ r ∷ []) ++ now ≡ (history ++ owes) ++ r ∷ []
served_history history owes now r e d =
    ap (λ xs. (history ++ r ∷ []) ++ xs) d ∙ append-nil (history ++ r ∷ [])
    ∙ ap (λ xs. xs ++ r ∷ []) (sym (append-nil history) ∙ ap (λ xs. history ++ xs) (sym e))

-- the record of a reply goes from what is owed to the history, and the rest stays owed
pub taken_history : (history owes now rest : List Record) (r : Record) → owes ≡ (r ∷ []) ++ rest
    → now ≡ rest → (history ++ r ∷ []) ++ now ≡ history ++ owes
taken_history history owes now rest r e d =
    ap (λ xs. (history ++ r ∷ []) ++ xs) d ∙ append_assoc history (r ∷ []) rest
    ∙ ap (λ xs. history ++ xs) (sym e)

pub owing_history : (history owes now : List Record) → owes ≡ []
    → history ++ now ≡ (history ++ owes) ++ now
owing_history history owes now e =
    ap (λ xs. xs ++ now) (sym (append-nil history) ∙ ap (λ xs. history ++ xs) (sym e))

-- the call asks for this word of a page
abbrev pub IsWordOf : Config → Call → ℕ → Word → Type 0
IsWordOf c called page word = asked_of c called ≡ asked.Word page word

-- What holds of a node beside its copies: its history is a run of its program, which makes the call
-- in progress, and after it those made along with it; the word that waits is that call's, and those
-- that wait along are theirs. Calls are made along only while it waits, or once their words were
-- carried out with its word, and have replies.
pub record IsRunning {S : Type 0} (c : Config) (n : Host S) : Type 0 where
  pub run : IsRunTo n.process.program n.history n.process.state
  pub makes : (called : Call) → n.memory.asked ≡ Some called
      → AsksRow n.process (called ∷ n.memory.along)
  pub waits : (called : Call) (page : ℕ) (word : Word) (number : ℕ) → n.memory.asked ≡ Some called
      → n.memory.coherence.locked ≡ Some page
      → WaitsAt (entry_at n.memory.coherence.table page) word number → IsWordOf c called page word
  pub waits_along : (page : ℕ) → n.memory.coherence.locked ≡ Some page
      → AreWordsOf c page n.memory.along n.memory.coherence.more
  pub prompt : (page : ℕ) (word : Word) (number : ℕ) → n.memory.coherence.locked ≡ Some page
      → WaitsAt (entry_at n.memory.coherence.table page) word number
      → (n.memory.along ≡ []) ⊎ (gives_reply word ≡ true)
  pub idle : n.memory.coherence.locked ≡ None → n.memory.coherence.done ≡ None
      → n.memory.along ≡ []
  pub told : (o : Out) → n.memory.coherence.done ≡ Some o
      → (n.memory.along ≡ []) ⊎ (IsReply o × HaveReplies n.memory.along n.memory.coherence.done_more)

-- The live blocks before and after an event, at the flat memory and at a node that has a heap: they
-- stay, or the heap served a call.
pub data GoOn (blocks : Blocks) (heap heap' : Option HeapState) (blocks' : Blocks) : Type 0 where
  blocks_stay : blocks' ≡ blocks → heap' ≡ heap → GoOn blocks heap heap' blocks'
  blocks_change : (h : HeapState) (t : BlocksTold) → heap ≡ Some h → heap' ≡ Some (after_told h t)
      → blocks' ≡ t.blocks → GoOn blocks heap heap' blocks'

-- What an event of node i comes to, with these messages of the heap on their way to it from node 0:
-- the flat memory makes these records, all the node's own, and has these pages then; by the entries
-- before the event the node had alone what each of them asks for; and what is owed to the node stands
-- together in the order as it did.
pub record Adds {S : Type 0} (c : Config) (was : ℕ → ℕ → Entry) (old : model.Memory) (i : ℕ)
    (n n' : Host S) (ms : List Message) (pages : ℕ → List ℕ) : Type 0 where
  pub more : List Record
  pub new : model.Memory
  pub legal : ServesAll c old more new
  pub shows : (p : ℕ) → p < c.pages → pages p ≡ flat_page c new p
  pub own : part i more ≡ more
  pub other : (j : ℕ) → j ≢ i → part j more ≡ []
  pub alone : AreAlone c was more
  pub history : n'.history ++ pending n' ms ≡ (n.history ++ pending n ms) ++ more
  pub together : (order : List Record) → StandTogether (pending n ms) order
      → StandTogether (pending n' ms) (order ++ more)
  pub running : IsRunning c n'
  pub program : n'.process.program ≡ n.process.program
  pub blocks : GoOn old.blocks n.memory.side.heap n'.memory.side.heap new.blocks

-- no call made along is owed where the word of the call in progress has no reply
pub untold-along : {S : Type 0} (c : Config) (n : Host S) → IsRunning c n
    → reply_there n.memory.coherence.done ≡ None → along_owed n ≡ []
untold-along c n running untold = at n.memory.coherence.done refl
  where
    at : (d : Option Out) → n.memory.coherence.done ≡ d → along_owed n ≡ []
    at None is =
        then-untold (number_of n) n.memory.along n.memory.coherence.done
        n.memory.coherence.done_more is
    at (Some o) is = elim (running.told o is) [
      | inl alone ↦
          then-alone (number_of n) n.memory.along n.memory.coherence.done
          n.memory.coherence.done_more alone
      | inr h ↦
          absurd (none-some h.0.0 (sym untold ∙ ap reply_there is ∙ h.0.1))
    ]

-- they are the node's own
pub along-own : (me i : ℕ) (calls : List Call) (outs : List Out) → me ≡ i
    → part i (owed_along me calls outs) ≡ owed_along me calls outs
along-own me i [] outs same = refl
along-own me i (k ∷ ks) [] same = refl
along-own me i (k ∷ ks) (o ∷ os) same =
    part-append i (owed me (Some k) (reply_of o)) (owed_along me ks os)
    ∙ ap (λ xs. xs ++ part i (owed_along me ks os)) (owed-own me i k (reply_of o) same)
    ∙ ap (λ xs. owed me (Some k) (reply_of o) ++ xs) (along-own me i ks os same)

pub along-other : (me i j : ℕ) (calls : List Call) (outs : List Out) → me ≡ i → j ≢ i
    → part j (owed_along me calls outs) ≡ []
along-other me i j [] outs same ne = refl
along-other me i j (k ∷ ks) [] same ne = refl
along-other me i j (k ∷ ks) (o ∷ os) same ne =
    part-append j (owed me (Some k) (reply_of o)) (owed_along me ks os)
    ∙ none_pending _ _ (owed-other me i j k (reply_of o) same ne) (along-other me i j ks os same ne)

unanswered_out : (o : Out) → reply_of o ≡ None → o ≡ out.NotYet
unanswered_out (out.Value value) h = absurd cc
unanswered_out out.Done h = absurd cc
unanswered_out out.Full h = absurd cc
unanswered_out out.NotYet h = refl

-- a word that gives its reply at once has one
pub reply-given : (w : Word) (bytes : List ℕ) → gives_reply w ≡ true → IsReply (carried_out w bytes).out
reply-given w bytes h = either (reply_of (carried_out w bytes).out) refl
  where
    either : (y : Option Reply) → reply_of (carried_out w bytes).out ≡ y
        → IsReply (carried_out w bytes).out
    either (Some r) is = (r, is)
    either None is =
        let waits =
        not_yet w (number_at (width_of w) (offset_of w) bytes)
        (unanswered_out (carried_out w bytes).out is) in
        absurd (let f : true ≡ false = sym h ∙ ap gives_reply waits.is in cc)

-- calls made along go on as the program does
module _ {S : Type 0} (n : Host S) where
  -- the memory, where these are made along, and these answers are there
  abbrev with_along : List Call → Option Out → List Out → NodeMemory S
  with_along calls d outs = record n.memory {
    coherence = record n.memory.coherence { done = d; done_more = outs };
    along = calls;
  }

  -- what is owed once the reply of the call in progress was taken out
  abbrev later : Call → Reply → NodeMemory S → List Call → Host S
  later called r m calls = recorded n (taken_with m calls) called r

  later-pending : (ms : List Message) (called : Call) (r : Reply) (calls : List Call) (d : Option Out)
      (outs : List Out) → (d ≡ None → calls ≡ [])
      → pending (later called r (with_along calls d outs) calls) ms
      ≡ owed_then (number_of n) calls d outs
  later-pending ms called r [] None outs none = refl
  later-pending ms called r [] (Some o) outs none = refl
  later-pending ms called r (k ∷ ks) None outs none =
      absurd (let f : k ∷ ks ≡ [] = none refl in cc)
  later-pending ms called r (k ∷ ks) (Some o) [] none = refl
  later-pending ms called r (k ∷ ks) (Some o) (o' ∷ os) none = refl

  pub taken-pending : (ms : List Message) (called : Call) (r : Reply) (calls : List Call)
      (d : Option Out) (outs : List Out) → n.memory.along ≡ calls → n.memory.coherence.done ≡ d
      → n.memory.coherence.done_more ≡ outs → (d ≡ None → calls ≡ [])
      → pending (recorded n (taken_out n.memory) called r) ms ≡ along_owed n
  taken-pending ms called r calls d outs along done more none =
      rw (along, done, more) (later-pending ms called r calls d outs none)

  later-running : (c : Config) (called : Call) (r : Reply) (calls : List Call) (d : Option Out)
      (outs : List Out)
      → IsRunTo n.process.program
      (n.history ++ record { node = number_of n; call = called; reply = r } ∷ [])
      (after_reply n.process.program n.process.state r)
      → n.memory.coherence.locked ≡ None → AsksRow (answered_with n.process r) calls
      → (d ≡ None → calls ≡ [])
      → ((o : Out) → d ≡ Some o → (calls ≡ []) ⊎ (IsReply o × HaveReplies calls outs))
      → IsRunning c (later called r (with_along calls d outs) calls)
  later-running c called r [] d outs run free asks none told = record {
    run = run;
    makes = λ other is. absurd (none-some other is);
    waits = λ other page w number is. absurd (none-some other is);
    waits_along = λ page lock. absurd (none-some page (sym free ∙ lock));
    prompt = λ page w number lock. absurd (none-some page (sym free ∙ lock));
    idle = λ lock done. refl;
    told = λ o done. inl refl;
  }
  later-running c called r (k ∷ ks) None outs run free asks none told =
      absurd (let f : k ∷ ks ≡ [] = none refl in cc)
  later-running c called r (k ∷ ks) (Some o) [] run free asks none told =
      elim (told o refl) [
        | inl f ↦ absurd (let g : k ∷ ks ≡ [] = f in cc)
        | inr h ↦ absurd h.1
      ]
  later-running c called r (k ∷ ks) (Some o) (o' ∷ os) run free asks none told =
      elim (told o refl) [
        | inl f ↦ absurd (let g : k ∷ ks ≡ [] = f in cc)
        | inr h ↦ record {
          run = run;
          makes = λ other is.
              subst (λ j. AsksRow (answered_with n.process r) (j ∷ ks)) (same_Some k other is) asks;
          waits = λ other page w number is lock. absurd (none-some page (sym free ∙ lock));
          waits_along = λ page lock. absurd (none-some page (sym free ∙ lock));
          prompt = λ page w number lock. absurd (none-some page (sym free ∙ lock));
          idle = λ lock done. absurd (none-some o' (sym done));
          told = λ q done.
              inr (subst (λ z. IsReply z × HaveReplies ks os) (same_Some o' q done) h.1);
        }
      ]

  pub taken-running : (c : Config) (called : Call) (r : Reply)
      → IsRunTo n.process.program
      (n.history ++ record { node = number_of n; call = called; reply = r } ∷ [])
      (after_reply n.process.program n.process.state r)
      → (calls : List Call) (d : Option Out) (outs : List Out) → n.memory.along ≡ calls
      → n.memory.coherence.done ≡ d → n.memory.coherence.done_more ≡ outs
      → n.memory.coherence.locked ≡ None → AsksRow (answered_with n.process r) calls
      → (d ≡ None → calls ≡ [])
      → ((o : Out) → d ≡ Some o → (calls ≡ []) ⊎ (IsReply o × HaveReplies calls outs))
      → IsRunning c (recorded n (taken_out n.memory) called r)
  taken-running c called r run calls d outs along done more free asks none told =
      rw (along, done, more) (later-running c called r calls d outs run free asks none told)
