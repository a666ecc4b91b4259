-- Each row of the table of coherence events keeps the requests of the managing nodes managed.
use Rattle.std.proofs.Common.{◌≡◌, ◌%◌, ℕ, true, false, List, [], slice_get, Some, refl, sym, ap, ◌∙◌, subst, inl, inr, ◌∷◌, map}
use Rattle.std.proofs.lemmas.Bool.{cases_eq}
use Rattle.std.proofs.lemmas.Option.{none-some}
use Rattle.std.specs.FinSet as set
use Rattle.ivy_model.specs.declared.Config.{Config}
use Rattle.ivy_model.specs.stated.Config.{IsConfig}
use Rattle.ivy_wire.specs.declared.Content.TheVariants as content
use Rattle.ivy_wire.specs.stated.Posts.{parcel_to}
use Rattle.ivy_pagetable.specs.declared.Entry.{Entry}
use Rattle.ivy_pagetable.specs.declared.Entry.TheVariants as entry
use Rattle.ivy_pagetable.specs.declared.PutOff.{PutOff}
use Rattle.ivy_pagetable.specs.stated.NodeSets.{Nodes, nodes_with}
use Rattle.ivy_pagetable.specs.stated.Entries.{put_offs, copying, owning, with_put_off}
use Rattle.ivy_coherence.specs.stated.Serving.{invalidations}
use Rattle.ivy_pagetable.specs.stated.States.{AwaitWriteState}
use Rattle.ivy_fixed.specs.stated.Fixed.{Owners, owner_kept, hop_of, fixed_ops}
use Rattle.ivy_fixed.specs.FixedLaws.{fixed_laws}
use Rattle.proof_table.specs.stated.Letters.{Letter, Net, Loose, content_of, letter_of}
use Rattle.proof_table.specs.transitions.Letters.{goes_on, installs}
use Rattle.proof_table.specs.stated.Orderly.{IsOrderly}
use Rattle.proof_table.specs.transitions.TableSteps.{Served, Comes, Joins, PutsOff, Takes, Notice, Row, IsNamedBy, noticed, with_manager, taken, letter}
use Rattle.proof_table.proofs.transitions.Places.{served, freed}
use Rattle.proof_table.proofs.transitions.RowsJoined.{joined_claims, joined_kept, joined_stays}
use Rattle.ivy_coherence.specs.stated.Fetching.{joined_by}
use Rattle.proof_table.proofs.transitions.Parcels.{IsNone, IsOrder, answer_step, orders_step, free_step, stay_step}
use Rattle.proof_table.proofs.transitions.Fitting.{IsRequest}
use Rattle.proof_table.proofs.routing.Quiet.{IsRoutedBy}
use Rattle.proof_table.specs.routing.Claiming.{claims}
use Rattle.proof_table.specs.routing.Managing.{IsManaged}
use Rattle.proof_table.proofs.routing.Managers.{none_told, one_told, told_else, told_itself}
use Rattle.proof_table.proofs.routing.Claims.{IsCalmed, then_calmed, put_claims, written_claims, step_calmed, answer_calmed}
use Rattle.proof_table.proofs.routing.Old.{installs_old, taken_old, put_off_old, installs_letters, taken_letters, put_off_stays, put_off_there, put_off_readers}
use Rattle.proof_table.proofs.routing.Descent.{descends}
use Rattle.proof_table.proofs.routing.NoBreach.{no_breach}
use Rattle.proof_table.proofs.routing.Managed.{calm_managed}
use Rattle.proof_table.proofs.routing.Sent.{serving, beginning, sent_on_read, sent_on_write, given, began_to_read, began_to_write}
use Rattle.ivy_wire.specs.stated.Data.{Content, Parcel}
use Rattle.proof_table.specs.stated.Descending.{IsAsked}
use Rattle.proof_table.proofs.routing.Asked.{AreStill, asked_remains, only_still, none_gone, part_readers}
use Rattle.proof_table.proofs.routing.Remaining.{IsThere, IsOnly, StaysPutOff, still_counted, served_remain, begun_remain, freed_remain, installed_remain, taken_counted, taken_remain}

module _ (c : Config) (m : ℕ → Owners) (n : Net) (order : IsOrderly c n) (managed : IsManaged c m n)
  where
    -- nobody is told of anything; the node itself is, of what changes nothing
    still_managed : (n' : Net) → IsCalmed n n' → IsManaged c m n'
    still_managed n' calm =
        calm_managed c m m n n' 0 0 (none_told fixed_ops m m 0 0 (λ i. refl)) order calm (inl refl)
        managed

    told_managed : (x : ℕ) (n' : Net) → IsCalmed n n' → IsManaged c (with_manager m x (m x)) n'
    told_managed x n' calm =
        calm_managed c m (with_manager m x (m x)) n n' 0 0
        (none_told fixed_ops m (with_manager m x (m x)) 0 0 (told_itself m x)) order calm
        (inl (ap (λ v. hop_of v 0) (told_itself m x (0 % c.nodes)))) managed

    -- a node that waited for the page is told that it came
    came_managed : (x p : ℕ) (s : AwaitWriteState) (n' : Net) → n.entry x p ≡ entry.AwaitWrite s
        → IsCalmed n n' → IsManaged c (with_manager m x (owner_kept (m x) p (m x).me)) n'
    came_managed x p s n' is calm =
        calm_managed c m m' n n' x p
        (one_told m x fixed_ops (owner_kept (m x) p (m x).me) p
        (fixed_laws.keeps_given (m x) p (m x).me)) order calm (elim (cases_eq (p % c.nodes) x) [
          | inl same ↦ inr (ap (λ i. claims (n.entry i p)) same ∙ ap claims is)
          | inr ne ↦
              inl (ap (λ v. hop_of v p) (told_else m x (owner_kept (m x) p (m x).me) (p % c.nodes) ne))
        ]) managed
      where
        m' : ℕ → Owners
        m' = with_manager m x (owner_kept (m x) p (m x).me)

-- bytes are installed
bytes_calmed : (n : Net) (x p : ℕ) (bytes : List ℕ) → IsCalmed n (installs n x p bytes)
bytes_calmed n x p bytes = record {
  claiming = λ y q. refl;
  counted = λ h. h;
  old = installs_old n x p bytes;
  readers = part_readers n (installs n x p bytes) (installs_letters n x p bytes);
  still = none_gone n (installs n x p bytes) (installed_remain n x p bytes);
}

-- what has come is installed
installed_calmed : (n n' : Net) (x p : ℕ) (bytes : List ℕ) → IsCalmed n n'
    → IsCalmed n (installs n' x p bytes)
installed_calmed n n' x p bytes calm =
    then_calmed n n' (installs n' x p bytes) calm (bytes_calmed n' x p bytes)

-- orders to give copies up are no requests
orders_calmed : (n : Net) (x p : ℕ) (e z : Entry) (call : ℕ) (nodes : Nodes) → n.entry x p ≡ e
    → ((k : ℕ) (q : PutOff) → slice_get (put_offs z) k ≡ Some q → slice_get (put_offs e) k ≡ Some q)
    → AreStill n (goes_on n x p z [] (invalidations x p call nodes)) → claims z ≡ claims e
    → IsCalmed n (goes_on n x p z [] (invalidations x p call nodes))
orders_calmed n x p e z call nodes is same still claiming =
    step_calmed n _ x p e z served (IsOrder n x p call nodes)
    (orders_step n x p e z call nodes is same)
    (λ a l new request. subst (λ (v : Letter). IsRequest v.message.content) new.3 request)
    (λ a l q bytes new is.
    (let f : content.Inval p ≡ content.ReadRep q bytes =
    ap (λ (v : Letter). v.message.content) (sym new.3) ∙ is in cc))
    (still_counted n x p z [] (invalidations x p call nodes)) still claiming

-- a letter that is no request to write is served: an answer goes out
answered_calmed : {c : Config} {T : Type 0} {at : T → Entry} {ask : ℕ → Content} (n : Net)
    (r : Served c n at ask) (z : Entry) (dest : ℕ) (body : Content)
    → ((k : ℕ) (q : PutOff) → slice_get (put_offs z) k ≡ Some q
    → slice_get (put_offs (at r.state)) k ≡ Some q) → StaysPutOff (at r.state) z
    → ((q : ℕ) → ask r.page ≡ content.WriteReq q → ⊥) → (IsRequest body → ⊥)
    → ((q : ℕ) (bytes : List ℕ) → body ≡ content.ReadRep q bytes
    → IsAsked n (content.ReadReq q) dest r.node)
    → claims z ≡ claims (at r.state)
    → IsCalmed n
    (goes_on n r.node r.page z r.rest (parcel_to r.node dest r.origin r.call body ∷ []))
answered_calmed {at = at} {ask = ask} n r z dest body same still unwritten none copied claiming =
    answer_calmed n _ x p (at s) z served _ _
    (answer_step n x p (at s) z old rest dest origin call body is loose same) none copied
    (still_counted n x p z rest posts)
    (only_still n _ old (served_remain n x p (at s) z rest posts is old loose still) unwritten)
    claiming
  where
    open r use {node as x, page as p, from, origin, call, state as s, rest, loose, is}

    old : Letter
    old = letter from x origin call (ask p)

    posts : List Parcel
    posts = parcel_to x dest origin call body ∷ []

-- what was put off is loose
freed_calmed : {c : Config} {T : Type 0} {at : T → Entry} {bring : ℕ → Content} (n : Net)
    (r : Comes c n at bring) (z : Entry) → put_offs z ≡ []
    → ((q : ℕ) → bring r.page ≡ content.WriteReq q → ⊥) → claims z ≡ claims (at r.state)
    → IsCalmed n
    (goes_on n r.node r.page z (map (letter_of r.node r.page) (put_offs (at r.state))) [])
freed_calmed {at = at} {bring = bring} n r z none unwritten claiming =
    step_calmed n _ x p (at s) z (freed x p) IsNone
    (free_step n x p (at s) z (put_offs (at s)) is refl none)
    (λ a l new request. new) (λ a l q bytes new is. new)
    (still_counted n x p z (map (letter_of x p) (put_offs (at s))) [])
    (only_still n _ (letter from x x call (bring p))
    (freed_remain n x p (at s) z (map (letter_of x p) (put_offs (at s))) [] is
    (letter from x x call (bring p)) loose refl) unwritten) claiming
  where
    open r use {node as x, page as p, from, call, state as s, loose, is}

-- a message is put off: a request to write stays at its node
module _ {c : Config} (n : Net) (put : PutsOff c n) where
  open put use {node as x, page as p, from, later as r, before as e, rest, loose, is, room}

  abbrev putting : Net
  putting = goes_on n x p (with_put_off e r) rest []

  put_still : AreStill n putting
  put_still q o y k =
      elim (asked_remains n putting (IsOnly (letter from x r.origin r.call (content_of r.kind p)))
      (served_remain n x p e (with_put_off e r) rest [] is
      (letter from x r.origin r.call (content_of r.kind p)) loose (put_off_stays e r room))
      (content.WriteReq q) o y k) [
        | inl h ↦ h
        | inr g ↦ (
            let there : IsThere putting (letter_of x p r) = put_off_there n x p r e rest room in
            record {
              at = there.0;
              letter = letter_of x p r;
              there = there.1;
              dest = ap (λ (v : Letter). v.dest) (sym g.1) ∙ g.2;
              asker = ap (λ (v : Letter). v.message.origin) (sym g.1) ∙ g.3;
              asks = ap (λ (v : Letter). v.message.content) (sym g.1) ∙ g.4;
            }
            )
      ]

  put_calmed : IsCalmed n putting
  put_calmed = record {
    claiming = written_claims n x p _ (put_claims e r ∙ ap claims (sym is));
    counted = still_counted n x p (with_put_off e r) rest [];
    old = put_off_old n x p from r e rest loose is room;
    readers = put_off_readers n x p from r e rest loose is room;
    still = put_still;
  }

-- an acknowledgement comes, and others are missing
ack_calmed : {c : Config} (n : Net) (r : Comes c n entry.AwaitAcks content.InvalAck)
    → IsCalmed n
    (goes_on n r.node r.page
    (entry.AwaitAcks
    (record { left = set.remove r.state.left r.from; waiting = r.state.waiting })) [] [])
ack_calmed n r =
    step_calmed n _ x p (entry.AwaitAcks s) fewer served IsNone
    (stay_step n x p (entry.AwaitAcks s) fewer is (λ k q h. h))
    (λ a l new request. new) (λ a l q bytes new is. new) (still_counted n x p fewer [] [])
    (only_still n _ (letter from x x call (content.InvalAck p))
    (served_remain n x p (entry.AwaitAcks s) fewer [] [] is
    (letter from x x call (content.InvalAck p)) loose (λ j r h. h)) (λ q h. cc)) refl
  where
    open r use {node as x, page as p, from, call, state as s, loose, is}

    fewer : Entry
    fewer = entry.AwaitAcks (record { left = set.remove s.left from; waiting = s.waiting })

-- a word joins the fetch of its page
joined_calmed : {c : Config} (n : Net) (r : Joins c n)
    → IsCalmed n (goes_on n r.node r.page (joined_by r.before r.word) [] [])
joined_calmed n r =
    step_calmed n _ x p e z served IsNone (stay_step n x p e z is (joined_kept e w))
    (λ a l new request. new) (λ a l q bytes new is. new) (still_counted n x p z [] [])
    (none_gone n _ (begun_remain n x p e z [] [] is loose (joined_stays e w))) (joined_claims e w)
  where
    open r use {node as x, page as p, word as w, before as e, loose, is}

    z : Entry
    z = joined_by e w

same_copy : (p q : ℕ) (bytes bytes' : List ℕ) → content.ReadRep p bytes ≡ content.ReadRep q bytes'
    → p ≡ q
same_copy p q bytes bytes' h = cc

no_reply : (p q : ℕ) (bytes : List ℕ) → content.InvalAck p ≡ content.ReadRep q bytes → ⊥
no_reply p q bytes h = cc

-- a letter is taken
taken_calmed : (n : Net) (r : Takes n) → IsCalmed n (taken n r.source r.dest r.message)
taken_calmed n r = record {
  claiming = λ y q. refl;
  counted = taken_counted n r.source r.dest r.message r.first r.none;
  old = taken_old n r.source r.dest r.message r.first;
  readers = part_readers n _ (taken_letters n r.source r.dest r.message r.first);
  still = none_gone n _ (taken_remain n r.source r.dest r.message r.first r.none);
}

-- the reader of a request to read that is served is about to have its copy
copied_reader : {c : Config} (n : Net) (r : Served c n entry.Idle content.ReadReq) (bytes : List ℕ)
    (q : ℕ) (bytes' : List ℕ)
    → content.ReadRep r.page bytes ≡ content.ReadRep q bytes'
    → IsAsked n (content.ReadReq q) r.origin r.node
copied_reader n r bytes q bytes' h =
    subst (λ v. IsAsked n (content.ReadReq v) r.origin r.node) (same_copy r.page q bytes bytes' h)
    (record {
      at = Loose 0;
      letter = letter r.from r.node r.origin r.call (content.ReadReq r.page);
      there = ap (λ v. slice_get v 0) r.loose;
      dest = refl;
      asker = refl;
      asks = refl;
    })

module _ (c : Config) (config : IsConfig c) where
  managed_by : {m : ℕ → Owners} {n : Net} {f : ℕ → List ℕ} {notice : Notice} {n' : Net}
      {f' : ℕ → List ℕ} → Row false c n f notice n' f'
      → IsNamedBy fixed_ops c m notice → IsOrderly c n → IsManaged c m n
      → IsManaged c (noticed fixed_ops m notice) n'
  managed_by (Row.carries r) of o h = still_managed c _ _ o h _ (bytes_calmed _ r.node r.page _)
  managed_by (Row.takes r) of o h = still_managed c _ _ o h _ (taken_calmed _ r)
  managed_by {m = m} (Row.drops r) of o h =
      absurd (no_breach _ (descends c m _ o h) c config o r.node r.old r.rest r.here r.loose r.dest
      r.misfits)
  managed_by (Row.shares r owner low) of o h = still_managed c _ _ o h _
      (answered_calmed _ r _ _ _ (λ k q h. h) (λ k q h. h) (λ q h. cc) (λ h. h)
      (copied_reader _ r _) (sym owner))
  managed_by (Row.gives r owner low) of o h =
      given c _ _ o h (serving r) r.from r.origin r.call r.rest r.loose owner _ _
  managed_by (Row.sends_on_read r hop plain away) of o h = rw of.1
      (sent_on_read c _ _ o h (serving r) plain r.from r.origin r.call r.rest r.loose)
  managed_by (Row.sends_on_write r hop plain away) of o h = rw of.1
      (sent_on_write c _ _ o h (serving r) r.from r.origin r.call r.rest r.loose plain)
  managed_by (Row.reader_sends_on_read r hop sends away) of o h =
      absurd (let g : false ≡ true = sends in cc)
  managed_by (Row.reader_sends_on_write r hop sends away) of o h =
      absurd (let g : false ≡ true = sends in cc)
  managed_by (Row.ends_copy r sender plain) of o h = told_managed c _ _ o h r.node _
      (answered_calmed _ r _ _ _ (λ k q h. h) (λ k q h. h) (λ q h. cc) (λ h. h)
      (λ q bytes h. absurd (no_reply r.page q bytes h)) (sym plain))
  managed_by (Row.gives_up r sender) of o h = told_managed c _ _ o h r.node _
      (answered_calmed _ r _ _ _ (λ k q h. h) (λ k q h. h) (λ q h. cc) (λ h. h)
      (λ q bytes h. absurd (no_reply r.page q bytes h)) refl)
  managed_by (Row.puts_off r kept) of o h = still_managed c _ _ o h _ (put_calmed _ r)
  managed_by (Row.copy_comes bytes r same quiet) of o h = told_managed c _ _ o h r.node _
      (installed_calmed _ _ r.node r.page bytes
      (freed_calmed _ r (entry.Idle copying) refl (λ q h. cc) refl))
  managed_by (Row.copy_comes_late bytes r same sent) of o h = still_managed c _ _ o h _
      (installed_calmed _ _ r.node r.page bytes
      (freed_calmed _ r (entry.Idle copying) refl (λ q h. cc) refl))
  managed_by (Row.page_comes copies bytes r same none) of o h =
      came_managed c _ _ o h r.node r.page r.state _ r.is
      (installed_calmed _ _ r.node r.page bytes
      (freed_calmed _ r (entry.Idle owning) refl (λ q h. cc) refl))
  managed_by {n = n} (Row.page_comes_shared copies bytes r same some out low) of o h =
      came_managed c _ _ o h r.node r.page r.state _ r.is
      (installed_calmed _ _ r.node r.page bytes
      (orders_calmed n r.node r.page (entry.AwaitWrite r.state) _ r.call (nodes_with copies)
      r.is (λ k q h. h)
      (only_still n _ _
      (served_remain n r.node r.page (entry.AwaitWrite r.state) _ []
      (invalidations r.node r.page r.call (nodes_with copies)) r.is _ r.loose (λ j r h. h))
      (λ q h. cc)) refl))
  managed_by (Row.acknowledges r same left more) of o h = still_managed c _ _ o h _ (ack_calmed _ r)
  managed_by (Row.acknowledges_last r same left last) of o h =
      still_managed c _ _ o h _ (freed_calmed _ r (entry.Idle owning) refl (λ q h. cc) refl)
  managed_by (Row.asks_copy r hop plain unread away) of o h = rw of.1
      (began_to_read c _ _ o h (beginning r) plain r.call r.word r.loose)
  managed_by (Row.asks_page r hop plain away) of o h = rw of.1
      (began_to_write c _ _ o h (beginning r) plain r.call r.word r.loose)
  managed_by {n = n} (Row.ends_copies r owner reader unwritten low out) of o h = still_managed c _ _ o h _
      (orders_calmed n r.node r.page (entry.Idle r.state) _ r.call r.state.copies r.is
      (λ k q h. absurd (none-some q h))
      (none_gone n _
      (begun_remain n r.node r.page (entry.Idle r.state) _ []
      (invalidations r.node r.page r.call r.state.copies) r.is r.loose
      (λ j r h. absurd (none-some r h))))
      (sym owner))
  managed_by (Row.joins r) of o h = still_managed c _ _ o h _ (joined_calmed _ r)

  pub managed-routed : IsRoutedBy fixed_ops c (IsManaged c)
  managed-routed = record { descends = descends c; by = managed_by }
