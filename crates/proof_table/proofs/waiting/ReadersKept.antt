-- Each row of the table of coherence events keeps requests to read before those to write.
use Rattle.std.proofs.Common.{◌≡◌, ◌≢◌, ◌⊎◌, ◌<◌, ◌%◌, ℕ, zero, suc, true, false, List, [], ◌∷◌, length, map, slice_get, Some, refl, sym, ap, ◌∙◌, subst, inl, inr, arith}
use Rattle.std.proofs.lemmas.Bool.{cases_eq, both_ways}
use Rattle.std.proofs.lemmas.Option.{none-some, slice_get_within}
use Rattle.std.specs.FinSet as set
use Rattle.ivy_model.specs.declared.Config.{Config}
use Rattle.ivy_model.specs.stated.Config.{IsConfig}
use Rattle.ivy_wire.specs.declared.Content.TheVariants as content
use Rattle.ivy_wire.specs.stated.Data.{Content}
use Rattle.ivy_wire.specs.stated.Posts.{parcel_to}
use Rattle.ivy_pagetable.specs.declared.Entry.{Entry}
use Rattle.ivy_pagetable.specs.declared.Entry.TheVariants as entry
use Rattle.ivy_pagetable.specs.declared.PutOff.{PutOff}
use Rattle.ivy_pagetable.specs.declared.Request.{Request}
use Rattle.ivy_pagetable.specs.declared.Request.TheVariants as request
use Rattle.ivy_pagetable.specs.stated.NodeSets.{Nodes, nodes_with}
use Rattle.ivy_pagetable.specs.stated.States.{IdleState}
use Rattle.ivy_pagetable.specs.stated.Entries.{put_offs, copying, owning, without, with_put_off}
use Rattle.ivy_coherence.specs.stated.Serving.{invalidations}
use Rattle.ivy_fixed.specs.stated.Fixed.{Owners, hop_of, fixed_ops}
use Rattle.proof_table.specs.stated.Letters.{Letter, Net, Place, Underway, Aside, Loose, IsAt, content_of, letter_of}
use Rattle.proof_table.specs.transitions.Letters.{written, goes_on, installs}
use Rattle.proof_table.specs.stated.Orderly.{IsOrderly}
use Rattle.proof_table.specs.transitions.TableSteps.{Served, Comes, PutsOff, Notice, Row, IsNamedBy, letter}
use Rattle.proof_table.proofs.transitions.Needs.{page_of}
use Rattle.proof_table.proofs.transitions.Places.{written_here, written-other, same_or_other, served, freed}
use Rattle.proof_table.proofs.transitions.NetSteps.{IsStep}
use Rattle.proof_table.proofs.transitions.RowsJoined.{joined_claims, joined_kept}
use Rattle.proof_table.proofs.transitions.Parcels.{IsThe, IsNone, IsOrder, answer_step, ask_step, orders_step, free_step, stay_step}
use Rattle.proof_table.proofs.transitions.Fitting.{IsRequest}
use Rattle.proof_table.specs.stated.Descending.{IsAsked}
use Rattle.proof_table.specs.routing.Claiming.{claims, IsReader}
use Rattle.proof_table.specs.routing.Managing.{IsRoutedByManaging, IsManaged}
use Rattle.proof_table.proofs.routing.Asked.{asked_others}
use Rattle.proof_table.proofs.routing.Claims.{claims_else, claims_same, put_claims, written_claims}
use Rattle.proof_table.proofs.routing.Descent.{descends}
use Rattle.proof_table.proofs.routing.Hops.{hop_elsewhere}
use Rattle.proof_table.proofs.routing.NoBreach.{no_breach}
use Rattle.proof_table.proofs.routing.Old.{put_off_step, put_off_old}
use Rattle.proof_table.proofs.routing.ManagedKept.{managed-routed}
use Rattle.proof_table.proofs.transitions.OrderlyKept.{orderly_by}
use Rattle.proof_table.specs.waiting.Readers.{IsBefore, AreReadersFirst, IsFair, ReadersComeFirst}
use Rattle.proof_table.proofs.waiting.Readers.{served_before, served_under, freed_before, freed_under, asked_at, IsReady, step_readers, calm_ready, same_readers, installs_at, taken_readers}

-- a letter that is no request is none to read, and none to write
no_read : (l : Letter) (q : ℕ) → (IsRequest l.message.content → ⊥)
    → l.message.content ≡ content.ReadReq q → ⊥
no_read l q none is = none (subst IsRequest (sym is) tt)

no_write : (l : Letter) (q : ℕ) → (IsRequest l.message.content → ⊥)
    → l.message.content ≡ content.WriteReq q → ⊥
no_write l q none is = none (subst IsRequest (sym is) tt)

module _ (c : Config) (n n' : Net) (x p : ℕ) (e z : Entry) (New : Place → Letter → Type 0)
    (none : (a : Place) (l : Letter) → New a l → IsRequest l.message.content → ⊥)
    (same : claims z ≡ claims e) (fair : IsFair c n) where
  -- no new letter is a request: one is served, or what was put off is loose
  served_fair : IsStep n n' x p e z served New → IsFair c n'
  served_fair step q =
      step_readers n n' x p e z served New step q (q % c.nodes)
      (calm_ready n n' x p e z served New step q (q % c.nodes)
      (λ a b l m at bt na nb h. served_before a b na nb h)
      (λ a l i y k at ne h. served_under a i y k ne h)
      (λ a l new is. no_read l q (none a l new) is)
      (λ a l new is. no_write l q (none a l new) is)
      (λ a l at na is ne h. claims_same n n' x p e z served New step same l.dest q ∙ h)) (fair q)

  freed_fair : (old : Letter) → n.loose ≡ old ∷ [] → IsStep n n' x p e z (freed x p) New
      → IsFair c n'
  freed_fair old loose step q =
      step_readers n n' x p e z (freed x p) New step q (q % c.nodes)
      (calm_ready n n' x p e z (freed x p) New step q (q % c.nodes)
      (freed_before n x p old loose) (freed_under n x p old loose)
      (λ a l new is. no_read l q (none a l new) is)
      (λ a l new is. no_write l q (none a l new) is)
      (λ a l at na is ne h. claims_same n n' x p e z (freed x p) New step same l.dest q ∙ h))
      (fair q)

module _ (c : Config) (n : Net) (fair : IsFair c n) where
  -- bytes are installed
  installed_fair : (x p : ℕ) (bytes : List ℕ) → IsFair c (installs n x p bytes)
  installed_fair x p bytes q =
      same_readers n (installs n x p bytes) q (q % c.nodes) (installs_at n x p bytes) (λ y. refl)
      (fair q)

  -- a letter that is no request is served: an answer goes out
  answered_fair : {T : Type 0} {at : T → Entry} {ask : ℕ → Content} (r : Served c n at ask)
      (z : Entry) (dest : ℕ) (body : Content)
      → ((k : ℕ) (q : PutOff) → slice_get (put_offs z) k ≡ Some q
      → slice_get (put_offs (at r.state)) k ≡ Some q)
      → (IsRequest body → ⊥) → claims z ≡ claims (at r.state)
      → IsFair c
      (goes_on n r.node r.page z r.rest (parcel_to r.node dest r.origin r.call body ∷ []))
  answered_fair {at = at} {ask = ask} r z dest body kept none same =
      served_fair c n _ x p (at s) z _
      (λ a l new request. none (subst (λ (v : Letter). IsRequest v.message.content) new.1 request))
      same fair
      (answer_step n x p (at s) z (letter from x origin call (ask p)) rest dest origin call body is
      loose kept)
    where
      open r use {node as x, page as p, from, origin, call, state as s, rest, loose, is}

  -- orders to give copies up are posted
  ordered_fair : (x p : ℕ) (e z : Entry) (call : ℕ) (nodes : Nodes) → n.entry x p ≡ e
      → ((k : ℕ) (q : PutOff) → slice_get (put_offs z) k ≡ Some q
      → slice_get (put_offs e) k ≡ Some q) → claims z ≡ claims e
      → IsFair c (goes_on n x p z [] (invalidations x p call nodes))
  ordered_fair x p e z call nodes is kept same =
      served_fair c n _ x p e z (IsOrder n x p call nodes)
      (λ a l new request. subst (λ (v : Letter). IsRequest v.message.content) new.3 request) same
      fair (orders_step n x p e z call nodes is kept)

  -- what a word waits for comes: what was put off is loose, or stays
  came_fair : {T : Type 0} {at : T → Entry} {bring : ℕ → Content} (r : Comes c n at bring)
      (z : Entry) → put_offs z ≡ [] → claims z ≡ claims (at r.state)
      → IsFair c
      (goes_on n r.node r.page z (map (letter_of r.node r.page) (put_offs (at r.state))) [])
  came_fair {at = at} {bring = bring} r z none same =
      freed_fair c n _ x p (at s) z IsNone (λ a l new request. new) same fair
      (letter from x x call (bring p)) loose
      (free_step n x p (at s) z (put_offs (at s)) is refl none)
    where
      open r use {node as x, page as p, from, call, state as s, loose, is}

  fewer_fair : (r : Comes c n entry.AwaitAcks content.InvalAck)
      → IsFair c
      (goes_on n r.node r.page
      (entry.AwaitAcks
      (record { left = set.remove r.state.left r.from; waiting = r.state.waiting })) [] [])
  fewer_fair r =
      served_fair c n _ r.node r.page (entry.AwaitAcks r.state) _ IsNone (λ a l new request. new)
      refl fair
      (stay_step n r.node r.page (entry.AwaitAcks r.state) _ r.is (λ k q h. h))

-- a node that does not claim the page sends a request on, or begins one
module _ (c : Config) (m : ℕ → Owners) (n : Net) (managed : IsManaged c m n) (fair : IsFair c n)
    (x p : ℕ) (s : IdleState) (here : x < c.nodes) (inside : p < c.pages)
    (is : n.entry x p ≡ entry.Idle s) (plain : s.owner ≡ false) where
  abbrev manager : ℕ
  manager = p % c.nodes

  abbrev kept_owner : ℕ
  kept_owner = hop_of (m manager) p

  abbrev hop : ℕ
  hop = hop_of (m x) p

  routed : IsRoutedByManaging (λ y. claims (n.entry y p)) (IsAsked n (content.WriteReq p))
      (IsReader n p) manager kept_owner
  routed = managed.routed p inside

  unclaimed : claims (n.entry x p) ≡ false
  unclaimed = ap claims is ∙ plain

  -- only the managing node asks another one than itself, and that is the owner that it keeps
  to_kept : hop ≢ manager
      → (x ≡ manager) × (hop ≡ kept_owner) × (claims (n.entry manager p) ≡ false)
  to_kept ne = elim (cases_eq x manager) [
    | inl same ↦ (
      same,
      ap (λ i. hop_of (m i) p) same,
      subst (λ i. claims (n.entry i p) ≡ false) same unclaimed,
    )
    | inr other ↦
        absurd (ne
        (hop_elsewhere (m x) x c.nodes p (managed.me x here) (managed.nodes x here) other))
  ]

  abbrev place : Place
  place = Underway x hop (length (n.posted x hop))

  module _ (n' : Net) (z : Entry) (o call : ℕ) (body : Content)
      (step : IsStep n n' x p (entry.Idle s) z served (IsThe place (letter x hop o call body)))
    where
      abbrev new : Letter
      new = letter x hop o call body

      abbrev New : Place → Letter → Type 0
      New = IsThe place new

      -- of the other pages no request is new
      others_fair : page_of body ≡ p → (q : ℕ) → q ≢ p → AreReadersFirst n' q (q % c.nodes)
      others_fair about q ne =
          step_readers n n' x p (entry.Idle s) z served New step q (q % c.nodes)
          (calm_ready n n' x p (entry.Idle s) z served New step q (q % c.nodes)
          (λ a b l k at bt na nb h. served_before a b na nb h)
          (λ a l i y k at na h. served_under a i y k na h)
          (λ a l it says.
          ne (ap page_of (sym says ∙ ap (λ (v : Letter). v.message.content) it.1) ∙ about))
          (λ a l it says.
          ne (ap page_of (sym says ∙ ap (λ (v : Letter). v.message.content) it.1) ∙ about))
          (λ a l at na says away h.
          claims_else n n' x p (entry.Idle s) z served New step l.dest q (inr ne) ∙ h)) (fair q)

      with_others : page_of body ≡ p → AreReadersFirst n' p manager → IsFair c n'
      with_others about mine q = elim (cases_eq q p) [
        | inl same ↦ subst (λ v. AreReadersFirst n' v (v % c.nodes)) (sym same) mine
        | inr ne ↦ others_fair about q ne
      ]

  -- a request to read
  module _ (n' : Net) (z : Entry) (o call : ℕ)
      (step : IsStep n n' x p (entry.Idle s) z served
      (IsThe place (letter x hop o call (content.ReadReq p))))
      (same_claims : claims z ≡ s.owner) where
    abbrev new_read : Letter
    new_read = letter x hop o call (content.ReadReq p)

    goes_to : (l : Letter) → l ≡ new_read → l.dest ≢ manager
        → (x ≡ manager) × (l.dest ≡ kept_owner) × (claims (n.entry manager p) ≡ false)
    goes_to l it ne =
        let there : l.dest ≡ hop = ap (λ (v : Letter). v.dest) it in
        let k = to_kept (λ same. ne (there ∙ same)) in (k.0, there ∙ k.1, k.2)

    still_claims : (y : ℕ) → claims (n'.entry y p) ≡ claims (n.entry y p)
    still_claims y =
        claims_same n n' x p (entry.Idle s) z served (IsThe place new_read) step same_claims y p

    no_new_write : (l : Letter) → l ≡ new_read → l.message.content ≡ content.WriteReq p → ⊥
    no_new_write l it writes = (
        let e : content.ReadReq p ≡ content.WriteReq p =
        sym (ap (λ (v : Letter). v.message.content) it) ∙ writes in
        cc
        )

    read_ready : IsReady n n' x p (entry.Idle s) z served (IsThe place new_read) step p manager
    read_ready = record {
      orders = λ a b l k at bt na nb h. served_before a b na nb h;
      under = λ a l i y k at na h. served_under a i y k na h;
      claimed = λ a l at na says ne h. still_claims l.dest ∙ h;
      new_claimed = λ a l it says ne. (
          let k = goes_to l it.1 ne in
          still_claims l.dest ∙ ap (λ v. claims (n.entry v p)) k.1 ∙ routed.kept_claims k.2
          );
      new_sent = λ i y k l it says ne. (
          let at : Underway i y k ≡ place = it.0 in
          let from : i ≡ x = cc in
          let to : y ≡ hop = cc in
          from ∙ (to_kept (λ same. ne (to ∙ same))).0
          );
      new_first = λ a b l k it bt nb reads writes same ne. absurd (
          let g = goes_to l it.1 ne in
          routed.kept_unasked g.2 k.message.origin
          (subst (IsAsked n (content.WriteReq p) k.message.origin) (sym same ∙ g.1)
          (asked_at n b k (content.WriteReq p) bt writes))
          );
      new_last = λ a b l k at na it reads writes same ne. absurd (no_new_write k it.1 writes);
      new_alone = λ a b l k it also reads writes. no_new_write k also.1 writes;
      new_queued = λ b k other it writes there ne j. no_new_write k it.1 writes;
      new_unread = λ a l it reads ne j. (
          let g = goes_to l it.1 ne in
          let was : IsAsked n (content.WriteReq p) l.dest manager =
          (asked_others n n' x p (entry.Idle s) z served place new_read step (content.WriteReq p)
          (λ h. cc) l.dest manager j).was in
          routed.queued_unkept l.dest was g.2 g.1
          );
    }

    pub read_fair : IsFair c n'
    read_fair =
        with_others n' z o call (content.ReadReq p) step refl
        (step_readers n n' x p (entry.Idle s) z served (IsThe place new_read) step p manager
        read_ready (fair p))

  -- a request to write: its origin asks it, or the managing node sends it on
  module _ (n' : Net) (z : Entry) (o call : ℕ)
      (step : IsStep n n' x p (entry.Idle s) z served
      (IsThe place (letter x hop o call (content.WriteReq p))))
      (who : (o ≡ x) ⊎ (x ≡ manager))
      (more_claims : (y : ℕ) → claims (n.entry y p) ≡ true → claims (n'.entry y p) ≡ true) where
    abbrev new_write : Letter
    new_write = letter x hop o call (content.WriteReq p)

    no_new_read : (l : Letter) → l ≡ new_write → l.message.content ≡ content.ReadReq p → ⊥
    no_new_read l it reads = (
        let e : content.WriteReq p ≡ content.ReadReq p =
        sym (ap (λ (v : Letter). v.message.content) it) ∙ reads in
        cc
        )

    -- a request to read at the kept owner is there before it
    is_last : (a : Place) (l : Letter) → IsAt n a l → a ≢ Loose 0
        → l.message.content ≡ content.ReadReq p → l.dest ≡ hop → hop ≢ manager
        → IsBefore (served a) place
    is_last (Aside i q k) l at na reads to ne = tt
    is_last (Loose zero) l at na reads to ne = absurd (na refl)
    is_last (Loose (suc k)) l at na reads to ne = tt
    is_last (Underway i y k) l at na reads to ne =
        let y_is : y ≡ hop = sym at.3 ∙ to in
        let i_is : i ≡ x =
        (fair p).reader_sent i y k l at reads (λ same. ne (sym y_is ∙ same))
        ∙ sym (to_kept ne).0 in
        let within : k < length (n.posted i y) = slice_get_within (n.posted i y) k l.message at.1 in
        let long : length (n.posted i y) ≡ length (n.posted x hop) =
        ap (λ v. length (n.posted v y)) i_is ∙ ap (λ v. length (n.posted x v)) y_is in
        (i_is, y_is, omega (arith, within, long))

    asker_unread : (l : Letter) → l ≡ new_write → l.dest ≡ manager → l.message.origin ≢ manager
        → (other : ℕ) → IsAsked n' (content.ReadReq p) other l.message.origin → ⊥
    asker_unread l it there ne other j = elim who [
      | inr same ↦
          routed.kept_away (subst (λ i. claims (n.entry i p) ≡ false) same unclaimed)
          (sym (ap (λ i. hop_of (m i) p) same) ∙ sym (ap (λ (v : Letter). v.dest) it) ∙ there)
      | inl mine ↦ (
          let origin : l.message.origin ≡ x = ap (λ (v : Letter). v.message.origin) it ∙ mine in
          let was : IsAsked n (content.ReadReq p) other l.message.origin =
          (asked_others n n' x p (entry.Idle s) z served place new_write step (content.ReadReq p)
          (λ h. cc) other l.message.origin j).was in
          both_ways (claims (n.entry x p)) unclaimed
          ((fair p).reader_claimed other x (λ same. ne (origin ∙ same))
          (subst (IsAsked n (content.ReadReq p) other) origin was))
          )
    ]

    write_ready : IsReady n n' x p (entry.Idle s) z served (IsThe place new_write) step p manager
    write_ready = record {
      orders = λ a b l k at bt na nb h. served_before a b na nb h;
      under = λ a l i y k at na h. served_under a i y k na h;
      claimed = λ a l at na says ne h. more_claims l.dest h;
      new_claimed = λ a l it says ne. absurd (no_new_read l it.1 says);
      new_sent = λ i y k l it says ne. absurd (no_new_read l it.1 says);
      new_first = λ a b l k it bt nb reads writes same ne. absurd (no_new_read l it.1 reads);
      new_last = λ a b l k at na it reads writes same ne. (
          let there : l.dest ≡ hop = same ∙ ap (λ (v : Letter). v.dest) it.1 in
          subst (IsBefore (served a)) (sym it.0)
          (is_last a l at na reads there (λ is_manager. ne (there ∙ is_manager)))
          );
      new_alone = λ a b l k it also reads writes. no_new_read l it.1 reads;
      new_queued = λ b k other it writes there ne j. asker_unread k it.1 there ne other j;
      new_unread = λ a l it reads ne j. no_new_read l it.1 reads;
    }

    pub write_fair : IsFair c n'
    write_fair =
        with_others n' z o call (content.WriteReq p) step refl
        (step_readers n n' x p (entry.Idle s) z served (IsThe place new_write) step p manager
        write_ready (fair p))

-- what is put off is about its page
put_about : (k : Request) (p : ℕ) → page_of (content_of k p) ≡ p
put_about request.Read p = refl
put_about request.Write p = refl
put_about request.Invalidate p = refl

-- a message is put off
module _ (c : Config) (n : Net) (fair : IsFair c n) (put : PutsOff c n) where
  open put use {node as x, page as p, from, later as r, before as e, rest, loose, is, room}

  abbrev putting : Net
  putting = goes_on n x p (with_put_off e r) rest []

  abbrev behind : Place
  behind = Aside x p (length (put_offs e))

  abbrev put_step : IsStep n putting x p e (with_put_off e r) served (IsThe behind (letter_of x p r))
  put_step = put_off_step n x p from r e rest loose is room

  -- it was loose
  was_loose : (l : Letter) → l ≡ letter_of x p r
      → IsAt n (Loose 0) (record { source = from; dest = x; message = l.message })
  was_loose l it =
      ap (λ v. slice_get v 0) loose
      ∙ ap (λ (v : Letter). Some (record { source = from; dest = x; message = v.message })) (sym it)

  still_asked : (body : Content) → IsRequest body → (o y : ℕ) → IsAsked putting body o y
      → IsAsked n body o y
  still_asked = (put_off_old n x p from r e rest loose is room).asked

  same_claims : (y q : ℕ) → claims (putting.entry y q) ≡ claims (n.entry y q)
  same_claims y q =
      claims_same n putting x p e (with_put_off e r) served (IsThe behind (letter_of x p r)) put_step
      (put_claims e r) y q

  behind_before : (b : Place) → b ≢ Loose 0 → IsBefore (Loose 0) b → IsBefore behind (served b)
  behind_before (Aside i q k) ne h = absurd h
  behind_before (Loose zero) ne h = absurd (ne refl)
  behind_before (Loose (suc k)) ne h = tt
  behind_before (Underway i y k) ne h = tt

  page_put : (q : ℕ) (body : Content) → page_of body ≡ q → (l : Letter) → l ≡ letter_of x p r
      → l.message.content ≡ body → p ≡ q
  page_put q body about l it says =
      sym (put_about r.kind p) ∙ ap (λ (v : Letter). page_of v.message.content) (sym it)
      ∙ ap page_of says ∙ about

  before_behind : (a : Place) (l : Letter) (q : ℕ) → IsAt n a l → a ≢ Loose 0 → l.dest ≡ x
      → l.message.content ≡ content.ReadReq q → p ≡ q → IsBefore a (Loose 0)
      → IsBefore (served a) behind
  before_behind (Underway i y k) l q at ne there reads about h = absurd h
  before_behind (Loose zero) l q at ne there reads about h = absurd (ne refl)
  before_behind (Loose (suc k)) l q at ne there reads about h = absurd (omega (arith, h))
  before_behind (Aside y v k) l q at ne there reads about h =
      let node : y ≡ x = ap (λ (b : Letter). b.dest) (sym at.2) ∙ there in
      let page : v ≡ p =
      sym (put_about at.0.kind v) ∙ ap (λ (b : Letter). page_of b.message.content) (sym at.2)
      ∙ ap page_of reads ∙ sym about in
      let within : k < length (put_offs (n.entry y v)) =
      slice_get_within (put_offs (n.entry y v)) k at.0 at.1 in
      let long : length (put_offs (n.entry y v)) ≡ length (put_offs e) =
      ap (λ i. length (put_offs (n.entry i v))) node ∙ ap (λ i. length (put_offs (n.entry x i))) page
      ∙ ap (λ z. length (put_offs z)) is in
      (node, page, omega (arith, within, long))

  put_ready : (q : ℕ) → IsReady n putting x p e (with_put_off e r) served
      (IsThe behind (letter_of x p r)) put_step q (q % c.nodes)
  put_ready q = record {
    orders = λ a b l k at bt na nb h. served_before a b na nb h;
    under = λ a l i y k at na h. served_under a i y k na h;
    claimed = λ a l at na says ne h. same_claims l.dest q ∙ h;
    new_claimed = λ a l it says ne. (
        same_claims l.dest q
        ∙ (fair q).reader_claimed l.message.origin l.dest ne
        (subst (IsAsked n (content.ReadReq q) l.message.origin)
        (ap (λ (v : Letter). v.dest) (sym it.1))
        (asked_at n (Loose 0) _ (content.ReadReq q) (was_loose l it.1) says))
        );
    new_sent = λ i y k l it says ne. absurd (let h : Underway i y k ≡ behind = it.0 in cc);
    new_first = λ a b l k it bt nb reads writes same ne. (
        let there : x ≡ l.dest = ap (λ (v : Letter). v.dest) (sym it.1) in
        subst (λ v. IsBefore v (served b)) (sym it.0)
        (behind_before b nb
        ((fair q).reader_first (Loose 0) b _ k (was_loose l it.1) bt reads writes (there ∙ same)
        (λ h. ne (sym there ∙ h))))
        );
    new_last = λ a b l k at na it reads writes same ne. (
        let there : k.dest ≡ x = ap (λ (v : Letter). v.dest) it.1 in
        subst (IsBefore (served a)) (sym it.0)
        (before_behind a l q at na (same ∙ there) reads
        (page_put q (content.WriteReq q) refl k it.1 writes)
        ((fair q).reader_first a (Loose 0) l _ at (was_loose k it.1) reads writes (same ∙ there) ne))
        );
    new_alone = λ a b l k it also reads writes. (
        let e : content.ReadReq q ≡ content.WriteReq q =
        sym reads ∙ ap (λ (v : Letter). v.message.content) (it.1 ∙ sym also.1) ∙ writes in
        cc
        );
    new_queued = λ b k other it writes there ne j.
        (fair q).queued_unread k.message.origin other ne
        (subst (IsAsked n (content.WriteReq q) k.message.origin)
        (sym (ap (λ (v : Letter). v.dest) it.1) ∙ there)
        (asked_at n (Loose 0) _ (content.WriteReq q) (was_loose k it.1) writes))
        (still_asked (content.ReadReq q) tt other k.message.origin j);
    new_unread = λ a l it reads ne j.
        (fair q).queued_unread l.dest l.message.origin ne
        (still_asked (content.WriteReq q) tt l.dest (q % c.nodes) j)
        (subst (IsAsked n (content.ReadReq q) l.message.origin)
        (ap (λ (v : Letter). v.dest) (sym it.1))
        (asked_at n (Loose 0) _ (content.ReadReq q) (was_loose l it.1) reads));
  }

  put_fair : IsFair c putting
  put_fair q =
      step_readers n putting x p e (with_put_off e r) served (IsThe behind (letter_of x p r)) put_step
      q (q % c.nodes) (put_ready q) (fair q)

-- the page is given: no request to read is left there, as each was there before
module _ (c : Config) (n : Net) (fair : IsFair c n) (r : Served c n entry.Idle content.WriteReq) where
  open r use {node as x, page as p, from, origin, call, state as s, rest, loose, is}

  abbrev asking : Letter
  asking = letter from x origin call (content.WriteReq p)

  asking_there : IsAt n (Loose 0) asking
  asking_there = ap (λ v. slice_get v 0) loose

  none_left : (a : Place) (l : Letter) → IsAt n a l → l.message.content ≡ content.ReadReq p
      → l.dest ≡ x → IsBefore a (Loose 0) → ⊥
  none_left (Underway i y k) l at reads there h = h
  none_left (Loose k) l at reads there h = omega (arith, h)
  none_left (Aside y v k) l at reads there h =
      let node : y ≡ x = ap (λ (b : Letter). b.dest) (sym at.2) ∙ there in
      let page : v ≡ p =
      sym (put_about at.0.kind v) ∙ ap (λ (b : Letter). page_of b.message.content) (sym at.2)
      ∙ ap page_of reads in
      none-some at.0
      (ap (λ z. slice_get (put_offs z) k)
      (sym is ∙ ap (λ i. n.entry i p) (sym node) ∙ ap (n.entry y) (sym page)) ∙ at.1)

  pub read_gone : (a : Place) (l : Letter) → IsAt n a l → l.message.content ≡ content.ReadReq p
      → l.dest ≡ x → x ≢ p % c.nodes → ⊥
  read_gone a l at reads there ne =
      none_left a l at reads there
      ((fair p).reader_first a (Loose 0) l asking at asking_there reads refl there
      (λ manager. ne (sym there ∙ manager)))

  pub given_fair : (bits : ℕ) (bytes : List ℕ)
      → IsFair c
      (goes_on n x p (entry.Idle without) rest
      (parcel_to x origin origin call (content.WriteRep p bits bytes) ∷ []))
  given_fair bits bytes q =
      step_readers n n' x p (entry.Idle s) (entry.Idle without) served New step q (q % c.nodes)
      (calm_ready n n' x p (entry.Idle s) (entry.Idle without) served New step q (q % c.nodes)
      (λ a b l k at bt na nb h. served_before a b na nb h)
      (λ a l i y k at na h. served_under a i y k na h)
      (λ a l it says. no_read l q (λ request. answer l it.1 request) says)
      (λ a l it says. no_write l q (λ request. answer l it.1 request) says)
      (λ a l at na says ne h. elim (cases_eq l.dest x) [
        | inr other ↦
            claims_else n n' x p (entry.Idle s) (entry.Idle without) served New step l.dest q
            (inl other) ∙ h
        | inl same ↦ elim (cases_eq q p) [
          | inr other ↦
              claims_else n n' x p (entry.Idle s) (entry.Idle without) served New step l.dest q
              (inr other) ∙ h
          | inl page ↦ absurd (
              let reads : l.message.content ≡ content.ReadReq p = says ∙ ap content.ReadReq page in
              read_gone a l at reads same
              (λ manager. ne (same ∙ manager ∙ ap (λ v. v % c.nodes) (sym page)))
              )
        ]
      ])) (fair q)
    where
      n' : Net
      n' = goes_on n x p (entry.Idle without) rest
          (parcel_to x origin origin call (content.WriteRep p bits bytes) ∷ [])

      New : Place → Letter → Type 0
      New = IsThe (Underway x origin (length (n.posted x origin)))
          (letter x origin origin call (content.WriteRep p bits bytes))

      step : IsStep n n' x p (entry.Idle s) (entry.Idle without) served New
      step = answer_step n x p (entry.Idle s) (entry.Idle without) asking rest origin origin call
          (content.WriteRep p bits bytes) is loose (λ k q h. h)

      answer : (l : Letter) → l ≡ letter x origin origin call (content.WriteRep p bits bytes)
          → IsRequest l.message.content → ⊥
      answer l it request = subst (λ (v : Letter). IsRequest v.message.content) it request

-- a request to write that is sent on is at the managing node
at_manager : (c : Config) (m : ℕ → Owners) (n : Net) → IsManaged c m n
    → (r : Served c n entry.Idle content.WriteReq) → r.state.owner ≡ false
    → r.node ≡ r.page % c.nodes
at_manager c m n managed r plain = elim (cases_eq r.node (r.page % c.nodes)) [
  | inl same ↦ same
  | inr ne ↦
      absurd (both_ways (claims (n.entry r.node r.page)) (ap claims r.is ∙ plain)
      ((managed.routed r.page r.inside).claimed r.origin r.node ne
      (asked_at n (Loose 0) (letter r.from r.node r.origin r.call (content.WriteReq r.page))
      (content.WriteReq r.page) (ap (λ v. slice_get v 0) r.loose) refl)))
]

-- whoever claims the page does so still
claims_on : (n : Net) (x p : ℕ) (z : Entry) → claims z ≡ true → (y : ℕ)
    → claims (n.entry y p) ≡ true → claims (written n.entry x p z y p) ≡ true
claims_on n x p z sure y h = elim (same_or_other y p x p) [
  | inl same ↦ ap claims (written_here n.entry x p z y p same.0 same.1) ∙ sure
  | inr other ↦ ap claims (written-other n.entry x p z y p other) ∙ h
]

module _ (c : Config) (config : IsConfig c) where
  -- each row keeps it
  pub fair_by : {m : ℕ → Owners} {n : Net} {f : ℕ → List ℕ} {notice : Notice} {n' : Net}
      {f' : ℕ → List ℕ} → Row false c n f notice n' f' → IsNamedBy fixed_ops c m notice
      → IsOrderly c n → IsManaged c m n → IsFair c n → IsFair c n'
  fair_by (Row.carries r) of o h fair = installed_fair c _ fair r.node r.page _
  fair_by (Row.takes r) of o h fair = λ q.
      taken_readers _ r.source r.dest r.message r.first q (q % c.nodes) (fair q)
  fair_by {m = m} (Row.drops r) of o h fair =
      absurd (no_breach _ (descends c m _ o h) c config o r.node r.old r.rest r.here r.loose r.dest
      r.misfits)
  fair_by (Row.shares r owner low) of o h fair =
      answered_fair c _ fair r _ _ _ (λ k q g. g) (λ g. g) (sym owner)
  fair_by (Row.gives r owner low) of o h fair = given_fair c _ fair r _ _
  fair_by {m = m} {n = n} (Row.sends_on_read r hop plain away) of o h fair = rw of.1
      (read_fair c m n h fair r.node r.page r.state r.here r.inside r.is plain _
      (entry.Idle r.state) r.origin r.call
      (answer_step n r.node r.page (entry.Idle r.state) (entry.Idle r.state) _ r.rest _ r.origin
      r.call (content.ReadReq r.page) r.is r.loose (λ k q g. g)) refl)
  fair_by {m = m} {n = n} (Row.sends_on_write r hop plain away) of o h fair = rw of.1
      (write_fair c m n h fair r.node r.page r.state r.here r.inside r.is plain _
      (entry.Idle r.state) r.origin r.call
      (answer_step n r.node r.page (entry.Idle r.state) (entry.Idle r.state) _ r.rest _ r.origin
      r.call (content.WriteReq r.page) r.is r.loose (λ k q g. g))
      (inr (at_manager c m n h r plain))
      (λ y claimed. written_claims n r.node r.page (entry.Idle r.state) (ap claims (sym r.is)) y r.page
      ∙ claimed))
  fair_by (Row.ends_copy r sender plain) of o h fair =
      answered_fair c _ fair r _ _ _ (λ k q g. g) (λ g. g) (sym plain)
  fair_by (Row.gives_up r sender) of o h fair =
      answered_fair c _ fair r _ _ _ (λ k q g. g) (λ g. g) refl
  fair_by (Row.puts_off r kept) of o h fair = put_fair c _ fair r
  fair_by (Row.reader_sends_on_read r hop sends away) of o h fair =
      absurd (let g : false ≡ true = sends in cc)
  fair_by (Row.reader_sends_on_write r hop sends away) of o h fair =
      absurd (let g : false ≡ true = sends in cc)
  fair_by (Row.copy_comes_late bytes r same sent) of o h fair =
      installed_fair c _ (came_fair c _ fair r (entry.Idle copying) refl refl) r.node r.page bytes
  fair_by (Row.copy_comes bytes r same quiet) of o h fair =
      installed_fair c _ (came_fair c _ fair r (entry.Idle copying) refl refl) r.node r.page bytes
  fair_by (Row.page_comes copies bytes r same none) of o h fair =
      installed_fair c _ (came_fair c _ fair r (entry.Idle owning) refl refl) r.node r.page bytes
  fair_by {n = n} (Row.page_comes_shared copies bytes r same some out low) of o h fair =
      installed_fair c _
      (ordered_fair c n fair r.node r.page (entry.AwaitWrite r.state) _ r.call (nodes_with copies)
      r.is (λ k q g. g) refl) r.node r.page bytes
  fair_by (Row.acknowledges r same left more) of o h fair = fewer_fair c _ fair r
  fair_by (Row.acknowledges_last r same left last) of o h fair =
      came_fair c _ fair r (entry.Idle owning) refl refl
  fair_by {m = m} {n = n} (Row.asks_copy r hop plain unread away) of o h fair = rw of.1
      (read_fair c m n h fair r.node r.page r.state r.here r.inside r.is plain _ _ r.node r.call
      (ask_step n r.node r.page (entry.Idle r.state) _ _ r.node r.call (content.ReadReq r.page) r.is
      r.loose (λ k q g. absurd (none-some q g))) (sym plain))
  fair_by {m = m} {n = n} (Row.asks_page r hop plain away) of o h fair = rw of.1
      (write_fair c m n h fair r.node r.page r.state r.here r.inside r.is plain _ _ r.node r.call
      (ask_step n r.node r.page (entry.Idle r.state) _ _ r.node r.call (content.WriteReq r.page)
      r.is r.loose (λ k q g. absurd (none-some q g))) (inl refl)
      (claims_on n r.node r.page _ refl))
  fair_by {n = n} (Row.ends_copies r owner reader unwritten low out) of o h fair =
      ordered_fair c n fair r.node r.page (entry.Idle r.state) _ r.call r.state.copies r.is
      (λ k q g. absurd (none-some q g)) (sym owner)
  fair_by {n = n} (Row.joins r) of o h fair =
      served_fair c n _ r.node r.page r.before _ IsNone (λ a l new request. new)
      (joined_claims r.before r.word) fair
      (stay_step n r.node r.page r.before _ r.is (joined_kept r.before r.word))

pub readers_come_first : ReadersComeFirst
readers_come_first c config = record {
  by = λ row of h. (
    orderly_by c config row h.0,
    (managed-routed c config).by row of h.0 h.1,
    fair_by c config row of h.0 h.1 h.2,
  );
}
