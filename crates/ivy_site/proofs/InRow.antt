-- Calls in a row, each of which is answered in the turn in which it begins.
use Rattle.std.proofs.Common.{◌≡◌, ℕ, true, ◌+◌, ◌<◌, ◌^◌, List, [], ◌∷◌, ◌++◌, length, length-append, Some, None, refl, sym, ap, ◌∙◌, subst, arith, append-nil, append_assoc}
use Rattle.ivy_model.specs.declared.Call.{Call}
use Rattle.ivy_model.specs.declared.Record.{Record}
use Rattle.ivy_model.specs.declared.Row.{Row}
use Rattle.ivy_model.specs.declared.Row.TheVariants.{Loads, Stores}
use Rattle.ivy_model.specs.stated.Legal.{HasWidth}
use Rattle.ivy_model.specs.Rows.{calls_of, numbers_in, record_in, row}
use Rattle.ivy_model.proofs.Rows.{calls-of-row, length-numbers_in, length-row}
use Rattle.ivy_host.specs.declared.opening.Opening.{Opening}
use Rattle.ivy_host.specs.stated.Managers.{Managed, managed_ops}
use Rattle.ivy_alloc.specs.declared.CallProgress.TheVariants.{Given}
use Rattle.ivy_memory.specs.AtOnce.{AnswerAtOnce}
use Rattle.ivy_memory.specs.stated.Memories.{NodeMemory, CallBegun, call_begun}
use Rattle.ivy_host.specs.stated.Hosts.{Host}
use Rattle.ivy_moves.specs.declared.keep.Keep.{Keep}
use Rattle.ivy_moves.specs.Marks.{Mark, Turn, turns}
use Rattle.ivy_link.specs.Outboxes.{Outbox, HasNumbers, posted_by, takes_none, after_none}
use Rattle.ivy_program.specs.OwnCode.{IsFree, Rests, asking, process_handed}
use Rattle.ivy_program.specs.Programs.{one_by_one}
use Rattle.ivy_program.specs.stated.InstructionSteps.{Process}
use Rattle.ivy_program.proofs.running.Nexts.{alone_waiting, asks_next, handed_and_answered, all_answered}
use Rattle.ivy_site.specs.Calls.{AreAnswered, BeginsCall}
use Rattle.ivy_site.specs.Handed.{site_handed}
use Rattle.ivy_site.specs.Inside.{HasTurn, host_of}
use Rattle.ivy_site.specs.SiteView.{SiteView, box_of, shown_of}
use Rattle.ivy_program.specs.stated.Programs.{HandedFetch, fetches_of}
use Rattle.ivy_site.specs.Sites.{AreUsed, IsSite}
use Rattle.ivy_site.proofs.Calling.{begin_alone, called, host-used}
use Rattle.ivy_site.proofs.Handed.{handed_site}
use Rattle.ivy_site.proofs.Turned.{called_site, called_turn, has_turned}

-- a site whose own code was answered each call of these rows
abbrev at : Opening → Keep → List HandedFetch → NodeMemory Managed → List (List Call) → List Record → Outbox → List Mark → SiteView
at opened keep fs m rows history box events =
    shown_of opened keep (host_of m (asking fs rows None) history) box events

-- the memory answers the call at once, whatever its number
abbrev AtOnce : Record → NodeMemory Managed → NodeMemory Managed → Type 0
AtOnce r old new = (number : ℕ) → call_begun managed_ops old r.call [] number
    ≡ record { answer = Given r.reply; after = new; posted = [] }

-- a site, and what one more call makes of it
module _ (opened : Opening) (keep : Keep) (fs : List HandedFetch) (m mid : NodeMemory Managed) (rows : List (List Call)) (history : List Record)
    (box : Outbox) (events : List Mark) (r : Record) (site : IsSite (at opened keep fs m rows history box events))
    (idle : m.asked ≡ None) (width : HasWidth r.call) (mine : r.node ≡ box.me)
    (room : length history + 1 < 2 ^ 64) (once : AtOnce r m mid) where
  abbrev before : SiteView
  before = at opened keep fs m rows history box events

  abbrev later : SiteView
  later = at opened keep fs mid (rows ++ (r.call ∷ []) ∷ []) (history ++ r ∷ []) box (events ++ Turn ∷ [])

  abbrev asks : Host Managed
  asks = host_of m (process_handed ((r.call ∷ []) ∷ []) (asking fs rows None)) history

  begun : call_begun managed_ops m r.call [] (length history + 1)
      ≡ record { answer = Given r.reply; after = mid; posted = [] }
  begun = once (length history + 1)

  posts : (call_begun managed_ops m r.call [] (length history + 1)).posted ≡ []
  posts = ap (λ (b : CallBegun Managed). b.posted) begun

  turn : HasTurn asks box (host_of mid (asking fs (rows ++ (r.call ∷ []) ∷ []) None) (history ++ r ∷ [])) box
  turn =
      has_turned true refl asks box
      (host_of mid (asking fs (rows ++ (r.call ∷ []) ∷ []) None) (history ++ r ∷ [])) box
      (called asks r.call (call_begun managed_ops m r.call [] (length history + 1))
      (begin_alone asks r.call (length history + 1) (record { is = refl; below = room }) refl idle
      (asks_next rows None refl r.call width) (alone_waiting rows (Some r.call)))
      box box r.node mid (asking fs (rows ++ (r.call ∷ []) ∷ []) None) (history ++ r ∷ []) true
      (Given r.reply) (mine ∙ sym site.me) (sym (ap (λ (b : CallBegun Managed). b.answer) begun))
      (sym (ap (λ (b : CallBegun Managed). b.after) begun))
      (subst (HasNumbers box) (sym posts) (takes_none box))
      (sym (ap (posted_by box) posts ∙ after_none box)) refl refl
      (handed_and_answered fs rows None r.call r.reply refl))

  free : IsFree (asking fs rows None)
  free = record { called = tt; ended = all_answered rows }

  pub once_answered : BeginsCall r.call (Some r.reply) before later
  once_answered = record {
    turns = called_turn (site_handed ((r.call ∷ []) ∷ []) before) (site_handed ((r.call ∷ []) ∷ []) before) refl
        asks (host_of mid (asking fs (rows ++ (r.call ∷ []) ∷ []) None) (history ++ r ∷ [])) box events
        (events ++ Turn ∷ []) refl turn refl refl;
    recorded = ap (λ (i : ℕ). history ++ record { node = i; call = r.call; reply = r.reply } ∷ [])
        (mine ∙ sym site.me);
  }

  pub once_site : IsSite later
  once_site =
      called_site (site_handed ((r.call ∷ []) ∷ []) before) asks
      (host_of mid (asking fs (rows ++ (r.call ∷ []) ∷ []) None) (history ++ r ∷ [])) box events
      (events ++ Turn ∷ []) (handed_site ((r.call ∷ []) ∷ []) before site free) refl turn refl refl

-- a word of a row
pub record-node : (kind : Row) (node addr number : ℕ) → (record_in kind node addr number).node ≡ node
record-node Loads node addr number = refl
record-node Stores node addr number = refl

record-width : (kind : Row) (node addr number : ℕ)
    → HasWidth (record_in kind node addr number).call
record-width Loads node addr number = (3, omega arith, refl)
record-width Stores node addr number = (3, omega arith, refl)

-- the site once the calls of a row of words were answered, which are made one after another
abbrev after : Opening → Keep → List HandedFetch → NodeMemory Managed → List (List Call) → List Record → Outbox → List Mark
    → List Record → SiteView
after opened keep fs m rows history box events rs =
    at opened keep fs m (rows ++ one_by_one (calls_of rs)) (history ++ rs) box (events ++ turns (length rs))

after-one : (opened : Opening) (keep : Keep) (fs : List HandedFetch) (m : NodeMemory Managed) (rows : List (List Call)) (history : List Record)
    (box : Outbox) (events : List Mark) (r : Record) (rs : List Record)
    → after opened keep fs m (rows ++ (r.call ∷ []) ∷ []) (history ++ r ∷ []) box (events ++ Turn ∷ []) rs
    ≡ after opened keep fs m rows history box events (r ∷ rs)
after-one opened keep fs m rows history box events r rs =
    ap (λ (ks : List (List Call)). at opened keep fs m ks ((history ++ r ∷ []) ++ rs) box
    ((events ++ Turn ∷ []) ++ turns (length rs))) (append_assoc rows ((r.call ∷ []) ∷ []) (one_by_one (calls_of rs)))
    ∙ ap (λ (hs : List Record). at opened keep fs m (rows ++ one_by_one (calls_of (r ∷ rs))) hs box
    ((events ++ Turn ∷ []) ++ turns (length rs))) (append_assoc history (r ∷ []) rs)
    ∙ ap (λ (es : List Mark). at opened keep fs m (rows ++ one_by_one (calls_of (r ∷ rs))) (history ++ r ∷ rs) box es)
    (append_assoc events (Turn ∷ []) (turns (length rs)))

after-none : (opened : Opening) (keep : Keep) (fs : List HandedFetch) (m : NodeMemory Managed) (rows : List (List Call)) (history : List Record)
    (box : Outbox) (events : List Mark)
    → after opened keep fs m rows history box events [] ≡ at opened keep fs m rows history box events
after-none opened keep fs m rows history box events =
    ap (λ (ks : List (List Call)). at opened keep fs m ks (history ++ []) box (events ++ [])) (append-nil rows)
    ∙ ap (λ (hs : List Record). at opened keep fs m rows hs box (events ++ [])) (append-nil history)
    ∙ ap (λ (es : List Mark). at opened keep fs m rows history box es) (append-nil events)

-- the calls of a row of words are answered, and the site stays one
pub record IsAfterRow (kind : Row) (numbers : List ℕ) (addr : ℕ) (old new : SiteView) : Type 0 where
  pub answered : AreAnswered (row kind old.me addr numbers) old new
  pub site : IsSite new

row_at : (kind : Row) (numbers : List ℕ) (addr : ℕ) (opened : Opening) (keep : Keep) (fs : List HandedFetch) (m new : NodeMemory Managed)
    (rows : List (List Call)) (history : List Record) (box : Outbox) (events : List Mark)
    → IsSite (at opened keep fs m rows history box events) → m.asked ≡ None
    → length history + length numbers < 2 ^ 64
    → AnswerAtOnce managed_ops (row kind box.me addr numbers) m new
    → IsAfterRow kind numbers addr (at opened keep fs m rows history box events)
    (after opened keep fs new rows history box events (row kind box.me addr numbers))
row_at kind [] addr opened keep fs m new rows history box events site idle room is =
    let same : after opened keep fs new rows history box events [] ≡ at opened keep fs m rows history box events =
    after-none opened keep fs new rows history box events
    ∙ ap (λ (x : NodeMemory Managed). at opened keep fs x rows history box events) is in
    record { answered = same; site = subst IsSite (sym same) site }
row_at kind (number ∷ more) addr opened keep fs m new rows history box events site idle room is =
    let r : Record = record_in kind box.me addr number in
    let mid : NodeMemory Managed = is.0 in
    let small : length history + 1 < 2 ^ 64 = omega (arith, room) in
    let next : length (history ++ r ∷ []) + length more < 2 ^ 64 =
    omega (arith, room, length-append history (r ∷ [])) in
    let width : HasWidth r.call = record-width kind box.me addr number in
    let mine : r.node ≡ box.me = record-node kind box.me addr number in
    let first : BeginsCall r.call (Some r.reply) (at opened keep fs m rows history box events)
    (at opened keep fs mid (rows ++ (r.call ∷ []) ∷ []) (history ++ r ∷ []) box (events ++ Turn ∷ [])) =
    once_answered opened keep fs m mid rows history box events r site idle width mine small is.1 in
    let then : IsSite (at opened keep fs mid (rows ++ (r.call ∷ []) ∷ []) (history ++ r ∷ []) box (events ++ Turn ∷ [])) =
    once_site opened keep fs m mid rows history box events r site idle width mine small is.1 in
    let rest = row_at kind more (addr + 8) opened keep fs mid new (rows ++ (r.call ∷ []) ∷ []) (history ++ r ∷ []) box
    (events ++ Turn ∷ []) then is.2 next is.3 in
    let rs : List Record = row kind box.me (addr + 8) more in
    let all = after-one opened keep fs new rows history box events r rs in
    record {
      answered = (
        at opened keep fs mid (rows ++ (r.call ∷ []) ∷ []) (history ++ r ∷ []) box (events ++ Turn ∷ []),
        first,
        subst (λ (s : SiteView). AreAnswered rs
            (at opened keep fs mid (rows ++ (r.call ∷ []) ∷ []) (history ++ r ∷ []) box (events ++ Turn ∷ [])) s) all
            rest.answered,
      );
      site = subst IsSite all rest.site;
    }

-- as the code has it
pub row_made : (kind : Row) (n v : SiteView) → v ≡ n → IsSite v → Rests v.node.core.process
    → v.node.core.memory.asked ≡ None → (words : ℕ) (bytes : List ℕ) (addr : ℕ)
    → length v.node.core.history + words < 2 ^ 64 → (m : NodeMemory Managed)
    → AnswerAtOnce managed_ops (row kind v.me addr (numbers_in words bytes)) v.node.core.memory m
    → (h : Host Managed) → AreUsed h → h.memory ≡ m
    → ((fs : List HandedFetch) (rows : List (List Call)) → v.node.core.process ≡ asking fs rows None
    → h.process
    ≡ asking fs (rows ++ one_by_one (calls_of (row kind 0 addr (numbers_in words bytes)))) None)
    → (i : ℕ) → i ≡ v.me
    → h.history ≡ v.node.core.history ++ row kind i addr (numbers_in words bytes)
    → (events : List Mark) → events ≡ v.events ++ turns words
    → IsAfterRow kind (numbers_in words bytes) addr n (shown_of v.opened v.keep h (box_of v) events)
row_made kind n v same site rests idle words bytes addr room m hits h whole next goes i mine kept events
    listed =
    let numbers : List ℕ = numbers_in words bytes in
    let many : length numbers ≡ words = length-numbers_in words bytes in
    let fs : List HandedFetch = rests.0 in
    let rows : List (List Call) = rests.1 in
    let rs : List Record = row kind v.me addr numbers in
    let is : v ≡ at v.opened v.keep fs v.node.core.memory rows v.node.core.history (box_of v) v.events =
    ap (λ (x : Host Managed). shown_of v.opened v.keep x (box_of v) v.events)
    (sym (host-used v.node.core v.node.core.memory v.node.core.history site.fetched)
    ∙ ap (λ (q : Process). host_of v.node.core.memory q v.node.core.history) rests.2) in
    let made = row_at kind numbers addr v.opened v.keep fs v.node.core.memory m rows v.node.core.history
    (box_of v) v.events (subst IsSite is site) idle (omega (arith, room, many)) hits in
    let program : h.process ≡ asking fs (rows ++ one_by_one (calls_of rs)) None =
    goes fs rows rests.2
    ∙ ap (λ (ks : List Call). asking fs (rows ++ one_by_one ks) None) (calls-of-row kind 0 v.me addr numbers) in
    let history : h.history ≡ v.node.core.history ++ rs =
    kept ∙ ap (λ (j : ℕ). v.node.core.history ++ row kind j addr numbers) mine in
    let marks : events ≡ v.events ++ turns (length rs) =
    listed ∙ ap (λ (j : ℕ). v.events ++ turns j) (sym (length-row kind v.me addr numbers ∙ many)) in
    let to : shown_of v.opened v.keep h (box_of v) events
    ≡ after v.opened v.keep fs m rows v.node.core.history (box_of v) v.events rs =
    (λ k. shown_of v.opened v.keep (record {
      memory = next k;
      process = program k;
      history = history k;
      used = (whole ∙ ap (λ (q : Process). length (fetches_of q.program)) program) k;
    }) (box_of v) (marks k)) in
    subst (λ (o : SiteView). IsAfterRow kind numbers addr o (shown_of v.opened v.keep h (box_of v) events))
    (sym is ∙ same)
    (subst (λ (x : SiteView). IsAfterRow kind numbers addr
    (at v.opened v.keep fs v.node.core.memory rows v.node.core.history (box_of v) v.events) x) (sym to) made)
