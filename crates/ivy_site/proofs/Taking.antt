-- Replies to calls in a row, each of which is taken in a turn.
use Rattle.std.proofs.Common.{◌≡◌, ℕ, true, ◌+◌, List, [], ◌∷◌, ◌++◌, length, map, Some, refl, sym, ap, ◌∙◌, subst, append-nil, append_assoc}
use Rattle.std.proofs.lemmas.List.{length-map}
use Rattle.ivy_model.specs.declared.Call.{Call}
use Rattle.ivy_model.specs.declared.Record.{Record}
use Rattle.ivy_model.specs.declared.Reply.{Reply}
use Rattle.ivy_model.specs.declared.Row.{Row}
use Rattle.ivy_model.specs.Rows.{calls_of, numbers_in, record_in, row}
use Rattle.ivy_model.proofs.Rows.{length-numbers_in, length-row}
use Rattle.ivy_host.specs.declared.opening.Opening.{Opening}
use Rattle.ivy_host.specs.stated.Hosts.{Host}
use Rattle.ivy_host.specs.stated.Managers.{Managed, managed_ops}
use Rattle.ivy_alloc.specs.declared.CallProgress.TheVariants.{Given}
use Rattle.ivy_memory.specs.stated.Memories.{NodeMemory, CallBegun, polled}
use Rattle.ivy_memory.specs.BatchedReplies.{TakesRecords}
use Rattle.ivy_memory.proofs.batches.Along.{AreFirst}
use Rattle.ivy_memory.proofs.keeping.Polling.{polled-begun}
use Rattle.ivy_memory.proofs.keeping.Begun.{GoesOn, IsBegun, one_goes}
use Rattle.ivy_host.proofs.WellBehaved.{first_asks}
use Rattle.ivy_moves.specs.declared.keep.Keep.{Keep}
use Rattle.ivy_moves.specs.Marks.{Mark, Turn, turns}
use Rattle.ivy_link.specs.Outboxes.{Outbox, HasNumbers, posted_by, takes_none, after_none}
use Rattle.ivy_program.specs.InstructionSteps.{AsksMany, answered_all}
use Rattle.ivy_program.specs.stated.InstructionSteps.{AsksRow, Process, answered_with}
use Rattle.ivy_site.specs.Calls.{AreTaken, IsTaken}
use Rattle.ivy_site.specs.Inside.{HasTurn, host_of}
use Rattle.ivy_site.specs.SiteView.{SiteView, box_of, shown_of}
use Rattle.ivy_program.specs.stated.Programs.{fetches_of}
use Rattle.ivy_site.specs.Sites.{AreUsed, IsSite}
use Rattle.ivy_site.proofs.Calling.{called, poll_call, host-used}
use Rattle.ivy_site.proofs.InRow.{record-node}
use Rattle.ivy_site.proofs.Turned.{called_site, called_turn, has_turned}

-- the replies of records
abbrev replies_of : List Record → List Reply
replies_of records = map (λ (r : Record). r.reply) records

-- a site whose call in progress has its reply, and what taking that makes of it
module _ (opened : Opening) (keep : Keep) (m mid : NodeMemory Managed) (p : Process) (history : List Record)
    (box : Outbox) (events : List Mark) (r : Record)
    (site : IsSite (shown_of opened keep (host_of m p history) box events))
    (asked : m.asked ≡ Some r.call) (mine : r.node ≡ box.me)
    (there : polled managed_ops m ≡ record { answer = Given r.reply; after = mid; posted = [] }) where
  abbrev before : SiteView
  before = shown_of opened keep (host_of m p history) box events

  abbrev later : SiteView
  later =
      shown_of opened keep (host_of mid (answered_with p r.reply) (history ++ r ∷ [])) box
      (events ++ Turn ∷ [])

  posts : (polled managed_ops m).posted ≡ []
  posts = ap (λ (b : CallBegun Managed). b.posted) there

  turn : HasTurn (host_of m p history) box
      (host_of mid (answered_with p r.reply) (history ++ r ∷ [])) box
  turn =
      has_turned true refl (host_of m p history) box
      (host_of mid (answered_with p r.reply) (history ++ r ∷ [])) box
      (called (host_of m p history) r.call (polled managed_ops m)
      (poll_call (host_of m p history) r.call refl asked)
      box box r.node mid (answered_with p r.reply) (history ++ r ∷ []) true (Given r.reply)
      (mine ∙ sym site.me) (sym (ap (λ (b : CallBegun Managed). b.answer) there))
      (sym (ap (λ (b : CallBegun Managed). b.after) there))
      (subst (HasNumbers box) (sym posts) (takes_none box))
      (sym (ap (posted_by box) posts ∙ after_none box)) refl refl refl)

  once_taken : IsTaken r before later
  once_taken = record {
    asked = asked;
    turns = called_turn before before refl (host_of m p history)
        (host_of mid (answered_with p r.reply) (history ++ r ∷ [])) box events (events ++ Turn ∷ [])
        refl turn refl refl;
    recorded = refl;
  }

  once_site : IsSite later
  once_site =
      called_site before (host_of m p history)
      (host_of mid (answered_with p r.reply) (history ++ r ∷ [])) box
      events (events ++ Turn ∷ []) site refl turn refl refl

-- the site once these replies were taken, and its memory is this
abbrev after : Opening → Keep → NodeMemory Managed → Process → List Record → Outbox → List Mark
    → List Record → SiteView
after opened keep m p history box events rs =
    shown_of opened keep (host_of m (answered_all p (replies_of rs)) (history ++ rs)) box
    (events ++ turns (length rs))

after-one : (opened : Opening) (keep : Keep) (m : NodeMemory Managed) (p : Process) (history : List Record)
    (box : Outbox) (events : List Mark) (r : Record) (rs : List Record)
    → after opened keep m (answered_with p r.reply) (history ++ r ∷ []) box (events ++ Turn ∷ []) rs
    ≡ after opened keep m p history box events (r ∷ rs)
after-one opened keep m p history box events r rs =
    ap (λ (hs : List Record).
    shown_of opened keep (host_of m (answered_all p (replies_of (r ∷ rs))) hs) box
    ((events ++ Turn ∷ []) ++ turns (length rs))) (append_assoc history (r ∷ []) rs)
    ∙ ap (λ (es : List Mark).
    shown_of opened keep (host_of m (answered_all p (replies_of (r ∷ rs))) (history ++ r ∷ rs)) box es)
    (append_assoc events (Turn ∷ []) (turns (length rs)))

after-none : (opened : Opening) (keep : Keep) (m : NodeMemory Managed) (p : Process) (history : List Record)
    (box : Outbox) (events : List Mark)
    → after opened keep m p history box events [] ≡ shown_of opened keep (host_of m p history) box events
after-none opened keep m p history box events =
    ap (λ (hs : List Record). shown_of opened keep (host_of m p hs) box (events ++ [])) (append-nil history)
    ∙ ap (λ (es : List Mark). shown_of opened keep (host_of m p history) box es) (append-nil events)

-- the replies in a row are taken, and the site stays one
pub record IsAfterTaking (kind : Row) (numbers : List ℕ) (addr : ℕ) (old new : SiteView) : Type 0 where
  pub taken : AreTaken (row kind old.me addr numbers) old new
  pub site : IsSite new

taking_at : (kind : Row) (numbers : List ℕ) (addr : ℕ) (opened : Opening) (keep : Keep) (m new : NodeMemory Managed)
    (p : Process) (history : List Record) (box : Outbox) (events : List Mark)
    → IsSite (shown_of opened keep (host_of m p history) box events)
    → TakesRecords managed_ops (row kind box.me addr numbers) m new
    → IsAfterTaking kind numbers addr (shown_of opened keep (host_of m p history) box events)
    (after opened keep new p history box events (row kind box.me addr numbers))
taking_at kind [] addr opened keep m new p history box events site is =
    let same : after opened keep new p history box events []
    ≡ shown_of opened keep (host_of m p history) box events =
    after-none opened keep new p history box events
    ∙ ap (λ (x : NodeMemory Managed). shown_of opened keep (host_of x p history) box events) is in
    record { taken = same; site = subst IsSite (sym same) site }
taking_at kind (number ∷ more) addr opened keep m new p history box events site is =
    let r : Record = record_in kind box.me addr number in
    let mid : NodeMemory Managed = is.0 in
    let mine : r.node ≡ box.me = record-node kind box.me addr number in
    let first : IsTaken r (shown_of opened keep (host_of m p history) box events)
    (shown_of opened keep (host_of mid (answered_with p r.reply) (history ++ r ∷ [])) box (events ++ Turn ∷ [])) =
    once_taken opened keep m mid p history box events r site is.1 mine is.2 in
    let then : IsSite
    (shown_of opened keep (host_of mid (answered_with p r.reply) (history ++ r ∷ [])) box (events ++ Turn ∷ [])) =
    once_site opened keep m mid p history box events r site is.1 mine is.2 in
    let rest = taking_at kind more (addr + 8) opened keep mid new (answered_with p r.reply) (history ++ r ∷ []) box
    (events ++ Turn ∷ []) then is.3 in
    let rs : List Record = row kind box.me (addr + 8) more in
    let all = after-one opened keep new p history box events r rs in
    record {
      taken = (
        shown_of opened keep (host_of mid (answered_with p r.reply) (history ++ r ∷ [])) box (events ++ Turn ∷ []),
        first,
        subst (λ (s : SiteView). AreTaken rs
            (shown_of opened keep (host_of mid (answered_with p r.reply) (history ++ r ∷ [])) box
            (events ++ Turn ∷ [])) s) all
            rest.taken,
      );
      site = subst IsSite all rest.site;
    }

-- the calls whose replies are taken are the first of those that go on
module _ (new : NodeMemory Managed) where
  first_taken : (rs : List Record) (m : NodeMemory Managed) (calls : List Call) (number : ℕ)
      → GoesOn calls number m → TakesRecords managed_ops rs m new → AreFirst (calls_of rs) calls
  first_taken [] m calls number goes is = (calls, refl)
  first_taken (r ∷ rs) m calls number goes is =
      let x = goes.first r.call is.1 in
      let y =
      first_taken rs is.0 m.along (m.number + 1)
      (subst (IsBegun r.call m.along m.along m.number) is.2 (polled-begun managed_ops m r.call is.1)) is.3 in (
        y.0 ++ x.0,
        x.1 ∙ ap (λ (ks : List Call). (r.call ∷ ks) ++ x.0) y.1
            ∙ append_assoc (r.call ∷ calls_of rs) y.0 x.0,
      )

  -- the program makes them, whatever it is answered
  asks_taken : (rs : List Record) (m : NodeMemory Managed) (p : Process)
      → ((call : Call) → m.asked ≡ Some call → AsksRow p (call ∷ m.along))
      → TakesRecords managed_ops rs m new → AsksMany p (length rs)
  asks_taken [] m p asking is = ([], refl, tt)
  asks_taken (r ∷ rs) m p asking is =
      let calls : List Call = r.call ∷ m.along in
      let x =
      first_taken (r ∷ rs) m calls m.number (one_goes m r.call m.along is.1 ([], sym (append-nil m.along))) is in (
        calls_of (r ∷ rs),
        length-map (r ∷ rs) (λ (y : Record). y.call),
        first_asks p (calls_of (r ∷ rs)) x.0 (subst (AsksRow p) x.1 (asking r.call is.1)),
      )

-- as the code has it
pub row_asks : (kind : Row) (v : SiteView) → IsSite v → (words : ℕ) (bytes : List ℕ) (addr : ℕ)
    → (m : NodeMemory Managed)
    → TakesRecords managed_ops (row kind v.me addr (numbers_in words bytes)) v.node.core.memory m
    → AsksMany v.node.core.process words
row_asks kind v site words bytes addr m is =
    let numbers : List ℕ = numbers_in words bytes in
    subst (AsksMany v.node.core.process)
    (length-row kind v.me addr numbers ∙ length-numbers_in words bytes)
    (asks_taken m (row kind v.me addr numbers) v.node.core.memory v.node.core.process site.asking is)

pub row_taken : (kind : Row) (n v : SiteView) → v ≡ n → IsSite v → (words : ℕ) (bytes : List ℕ)
    (addr : ℕ) → (m : NodeMemory Managed)
    → TakesRecords managed_ops (row kind v.me addr (numbers_in words bytes)) v.node.core.memory m
    → (h : Host Managed) → AreUsed h → h.memory ≡ m
    → ((replies : List Reply) → length replies ≡ words
    → h.process ≡ answered_all v.node.core.process replies)
    → (i : ℕ) → i ≡ v.me
    → h.history ≡ v.node.core.history ++ row kind i addr (numbers_in words bytes)
    → (events : List Mark) → events ≡ v.events ++ turns words
    → IsAfterTaking kind (numbers_in words bytes) addr n (shown_of v.opened v.keep h (box_of v) events)
row_taken kind n v same site words bytes addr m is h whole next goes i mine kept events listed =
    let numbers : List ℕ = numbers_in words bytes in
    let rs : List Record = row kind v.me addr numbers in
    let long : length rs ≡ words = length-row kind v.me addr numbers ∙ length-numbers_in words bytes in
    let so : v.node.core ≡ host_of v.node.core.memory v.node.core.process v.node.core.history =
    sym (host-used v.node.core v.node.core.memory v.node.core.history site.fetched) in
    let made = taking_at kind numbers addr v.opened v.keep v.node.core.memory m v.node.core.process
    v.node.core.history (box_of v) v.events
    (subst (λ (x : Host Managed). IsSite (shown_of v.opened v.keep x (box_of v) v.events)) so site) is in
    let program : h.process ≡ answered_all v.node.core.process (replies_of rs) =
    goes (replies_of rs) (length-map rs (λ (r : Record). r.reply) ∙ long) in
    let history : h.history ≡ v.node.core.history ++ rs =
    kept ∙ ap (λ (j : ℕ). v.node.core.history ++ row kind j addr numbers) mine in
    let marks : events ≡ v.events ++ turns (length rs) =
    listed ∙ ap (λ (j : ℕ). v.events ++ turns j) (sym long) in
    let to : shown_of v.opened v.keep h (box_of v) events
    ≡ after v.opened v.keep m v.node.core.process v.node.core.history (box_of v) v.events rs =
    (λ k. shown_of v.opened v.keep (record {
      memory = next k;
      process = program k;
      history = history k;
      used = (whole ∙ ap (λ (q : Process). length (fetches_of q.program)) program) k;
    }) (box_of v) (marks k)) in
    subst (λ (o : SiteView). IsAfterTaking kind numbers addr o (shown_of v.opened v.keep h (box_of v) events))
    (ap (λ (x : Host Managed). shown_of v.opened v.keep x (box_of v) v.events) (sym so) ∙ same)
    (subst (λ (x : SiteView). IsAfterTaking kind numbers addr
    (shown_of v.opened v.keep (host_of v.node.core.memory v.node.core.process v.node.core.history)
    (box_of v) v.events) x) (sym to) made)
