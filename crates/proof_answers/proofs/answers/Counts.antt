-- A count has come at least to as many as the nodes were told that they had advanced it, by every
-- order that explains what they were answered.
use Rattle.std.proofs.Common.{◌≡◌, ◌≤◌, ◌<◌, ◌+◌, ◌-◌, ◌^◌, ◌==◌, ℕ, Bool, true, false, List, [], ◌∷◌, ◌++◌, length}
use Rattle.std.proofs.Common.{slice_get, slice_set, append-nil, Option, Some, None, MatchBool, MatchOption, if◌then◌else◌, refl, sym, ap, ◌∙◌, subst, arith, inl, inr}
use Rattle.std.specs.FinMap.{get}
use Rattle.std.specs.Prelude.{count_by}
use Rattle.std.proofs.lemmas.Bool.{cases_eq, eq-eqb, ne_eqb}
use Rattle.std.proofs.lemmas.List.Sums.{sum_by-cons, sum_by-append}
use Rattle.std.proofs.lemmas.Option.{same_Some, slice_get_within, slice_get_cases, slice_get-get_or}
use Rattle.ivy_model.specs.declared.Config.{Config}
use Rattle.ivy_model.specs.stated.Config.{IsConfig}
use Rattle.ivy_model.specs.declared.Call.{Call}
use Rattle.ivy_model.specs.declared.Call.TheVariants as call
use Rattle.ivy_model.specs.declared.CallKind.{CallKind}
use Rattle.ivy_model.specs.declared.CallKind.TheVariants as kind
use Rattle.ivy_model.specs.declared.Record.{Record}
use Rattle.ivy_model.specs.declared.Reply.{Reply}
use Rattle.ivy_model.specs.declared.Reply.TheVariants as reply
use Rattle.ivy_model.specs.stated.Accesses.{kind_of_call, next_number}
use Rattle.ivy_model.specs.stated.Explains.{part}
use Rattle.ivy_model.specs.stated.Legal.{ServesAll}
use Rattle.ivy_model.specs.stated.Memory.{Memory, first}
use Rattle.ivy_model.specs.Memory.{IsSized}
use Rattle.ivy_model.specs.stated.Serves.{ServesKind, access_refusal, with_written}
use Rattle.ivy_model.proofs.Sizes.{first_sized, leads_sized}
use Rattle.ivy_program.specs.stated.Programs.{Program}
use Rattle.ivy_moves.specs.stated.Following.{fifo_of}
use Rattle.ivy_moves.specs.stated.Nodes.{Node}
use Rattle.ivy_moves.specs.stated.Worlds.{World}
use Rattle.ivy_moves.proofs.Places.{core_of, set-there, set-elsewhere}
use Rattle.proof_worlds.specs.progress.Ending.{sum_below}
use Rattle.proof_worlds.specs.stated.Settled.{HasNoAnswer}
use Rattle.proof_worlds.specs.stated.Unblocked.{Stands, waits, replied, reached, tried, AreUnblocked}
use Rattle.ivy_host.specs.stated.Hosts.{Host}
use Rattle.ivy_host.specs.stated.Managers.{Managed, managed_ops}
use Rattle.ivy_host.specs.declared.opening.Opening.{Opening}
use Rattle.ivy_host.specs.stated.Openings.{managed_start}
use Rattle.ivy_memory.specs.stated.Memories.{in_progress}
use Rattle.proof_worlds.specs.stated.FifoRuns.{FollowsInOrder}
use Rattle.proof_worlds.proofs.consistency.Faithful.{map-places}
use Rattle.proof_worlds.proofs.progress.NumberTotals.{sum_le, sum_add, sum_zero, sum_only}
use Rattle.proof_answers.specs.answers.Answered.{is_advance, advanced_by, advances, IsDue}
use Rattle.proof_answers.proofs.answers.Later.{AreLater}

by_option : {A G : Type 0} (o : Option A) {N : Type 0} {S : A → Type 0} → MatchOption o N S
    → (o ≡ None → N → G) → ((x : A) → o ≡ Some x → S x → G) → G
by_option None p at_none at_some = at_none refl p
by_option (Some x) p at_none at_some = at_some x refl p

by_bool : {G : Type 0} (b : Bool) {P Q : Type 0} → MatchBool b P Q → (b ≡ true → P → G)
    → (b ≡ false → Q → G) → G
by_bool true p at_true at_false = at_true refl p
by_bool false p at_true at_false = at_false refl p

abbrev one_if : Bool → ℕ
one_if b = if b then 1 else 0

-- by how much a call of this kind lets a count grow, at least
abbrev tick_kind : ℕ → CallKind → Reply → ℕ
tick_kind k (kind.Advance j) reply.Done = one_if (j == k)
tick_kind k called answer = 0

abbrev tick : ℕ → Record → ℕ
tick k r = one_if (is_advance k r.call r.reply)

same_tick : (k : ℕ) (called : Call) (answer : Reply)
    → one_if (is_advance k called answer) ≡ tick_kind k (kind_of_call called) answer
same_tick k (call.Advance j) reply.Done = refl
same_tick k (call.Advance j) (reply.Value value) = refl
same_tick k (call.Advance j) (reply.Refused code) = refl
same_tick k called answer = refl

record Rises (k a more : ℕ) (m : Memory) : Type 0 where
  count : ℕ
  there : slice_get m.counts k ≡ Some count
  least : a + more ≤ count

module _ (c : Config) (k a : ℕ) (old new : Memory) (there : slice_get old.counts k ≡ Some a) where
  same_counts : new.counts ≡ old.counts → Rises k a 0 new
  same_counts same = record {
    count = a;
    there = ap (λ l. slice_get l k) same ∙ there;
    least = omega arith;
  }

  unchanged : new ≡ old → Rises k a 0 new
  unchanged same = same_counts (ap (λ (m : Memory). m.counts) same)

  written_counts : (width addr : ℕ) (next : Option ℕ) → new ≡ with_written c old width addr next
      → Rises k a 0 new
  written_counts width addr None is = unchanged is
  written_counts width addr (Some value) is = same_counts (ap (λ (m : Memory). m.counts) is)

  refused_tick : (j code : ℕ) (answer : Reply) → answer ≡ reply.Refused code → new ≡ old
      → Rises k a (tick_kind k (kind.Advance j) answer) new
  refused_tick j code answer is same =
      subst (λ r. Rises k a (tick_kind k (kind.Advance j) r) new) (sym is) (unchanged same)

  advanced : (j n : ℕ) → slice_get old.counts j ≡ Some n
      → new ≡ record old { counts = slice_set old.counts j (n + 1) }
      → Rises k a (one_if (j == k)) new
  advanced j n at is = elim (cases_eq j k) [
    | inl same ↦
        (let here : slice_get old.counts k ≡ Some n =
        subst (λ v. slice_get old.counts v ≡ Some n) same at in
        let equal : n ≡ a = same_Some n a (sym here ∙ there) in
        record {
          count = n + 1;
          there =
              ap (λ (m : Memory). slice_get m.counts k) is
              ∙ ap (λ v. slice_get (slice_set old.counts v (n + 1)) k) same
              ∙ set-there old.counts k (n + 1) n here;
          least =
              (let t : one_if (j == k) ≡ 1 = ap one_if (eq-eqb j k same) in
              omega (arith, t, equal));
        })
    | inr ne ↦
        record {
          count = a;
          there =
              ap (λ (m : Memory). slice_get m.counts k) is
              ∙ set-elsewhere old.counts j k (n + 1) ne ∙ there;
          least =
              (let t : one_if (j == k) ≡ 0 = ap one_if (ne_eqb j k ne) in omega (arith, t));
        }
  ]

  kind_rises : (called : CallKind) (answer : Reply) → ServesKind c old called answer new
      → Rises k a (tick_kind k called answer) new
  kind_rises (kind.Word width addr act) answer p =
      by_option (access_refusal c width addr) p
      (λ e x. written_counts width addr (next_number width act _) x.1)
      (λ code e x. unchanged x.1)
  kind_rises (kind.Count j) answer p =
      by_option (slice_get old.counts j) p (λ e x. unchanged x.1) (λ n e x. unchanged x.1)
  kind_rises (kind.Advance j) answer p =
      by_option (slice_get old.counts j) p (λ e x. refused_tick j _ answer x.0 x.1)
      (λ n e x. by_bool (n == 2 ^ 64 - 1) x (λ f y. refused_tick j _ answer y.0 y.1)
      (λ f y. subst (λ r. Rises k a (tick_kind k (kind.Advance j) r) new) (sym y.0)
      (advanced j n e y.1)))
  kind_rises (kind.Await j least) answer p =
      by_option (slice_get old.counts j) p (λ e x. unchanged x.1) (λ n e x. unchanged x.2)
  kind_rises (kind.Alloc size) (reply.Value addr) p =
      by_bool (size == 0) p (λ e x. unchanged x.1)
      (λ e x. same_counts (ap (λ (m : Memory). m.counts) x.1))
  kind_rises (kind.Alloc size) reply.Done p =
      by_bool (size == 0) p (λ e x. unchanged x.1) (λ e x. absurd x)
  kind_rises (kind.Alloc size) (reply.Refused code) p =
      by_bool (size == 0) p (λ e x. unchanged x.1) (λ e x. unchanged x.2)
  kind_rises (kind.Free addr) answer p =
      by_option (get old.blocks addr) p (λ e x. unchanged x.1)
      (λ n e x. same_counts (ap (λ (m : Memory). m.counts) x.1))

abbrev ticks : ℕ → List Record → ℕ
ticks k rs = count_by (λ (r : Record). is_advance k r.call r.reply) rs

ticks_cons : (k : ℕ) (r : Record) (rs : List Record) → ticks k (r ∷ rs) ≡ tick k r + ticks k rs
ticks_cons k r rs = sum_by-cons (tick k) r rs

ticks_append : (k : ℕ) (rs more : List Record) → ticks k (rs ++ more) ≡ ticks k rs + ticks k more
ticks_append k rs more = sum_by-append (tick k) rs more

rises_all : (c : Config) (k a : ℕ) (rs : List Record) (old new : Memory)
    → slice_get old.counts k ≡ Some a → ServesAll c old rs new → Rises k a (ticks k rs) new
rises_all c k a [] old new there led = unchanged c k a old new there led
rises_all c k a (r ∷ rs) old new there led =
    let one : Rises k a (tick_kind k (kind_of_call r.call) r.reply) led.0 =
    kind_rises c k a old led.0 there (kind_of_call r.call) r.reply led.1.served in
    let rest : Rises k one.count (ticks k rs) new =
    rises_all c k one.count rs led.0 new one.there led.2 in
    let x = one.least in
    let y = rest.least in
    let z = ticks_cons k r rs in
    let t = same_tick k r.call r.reply in
    record { count = rest.count; there = rest.there; least = omega (arith, x, y, z, t) }

-- each record is of one node
part_ticks : (k nodes : ℕ) (rs : List Record)
    → sum_below nodes (λ i. ticks k (part i rs)) ≤ ticks k rs
part_ticks k nodes [] =
    (let a : sum_below nodes (λ i. ticks k (part i [])) ≡ 0 =
    sum_zero nodes (λ i. ticks k (part i [])) (λ i lt. refl) in
    omega (arith, a))
part_ticks k nodes (r ∷ rs) =
    let rest : sum_below nodes (λ i. ticks k (part i rs)) ≤ ticks k rs = part_ticks k nodes rs in
    let one : sum_below nodes mine ≤ tick k r =
    sum_only nodes r.node (tick k r) mine
    (λ i ne. ap (λ b. if b then tick k r else 0) (ne_eqb r.node i (λ e. ne (sym e))))
    (at_most (r.node == r.node)) in
    let both : sum_below nodes (λ i. mine i + ticks k (part i rs))
    ≡ sum_below nodes mine + sum_below nodes (λ i. ticks k (part i rs)) =
    sum_add nodes mine (λ i. ticks k (part i rs)) in
    let less : sum_below nodes (λ i. ticks k (part i (r ∷ rs)))
    ≤ sum_below nodes (λ i. mine i + ticks k (part i rs)) =
    sum_le nodes (λ i. ticks k (part i (r ∷ rs))) _
    (λ i lt. (let e = either i (r.node == i) in omega (arith, e))) in
    let all = ticks_cons k r rs in
    omega (arith, rest, one, both, less, all)
  where
    mine : ℕ → ℕ
    mine i = if r.node == i then tick k r else 0

    at_most : (b : Bool) → (if b then tick k r else 0) ≤ tick k r
    at_most true = omega arith
    at_most false = omega arith

    either : (i : ℕ) (b : Bool) → ticks k (if b then r ∷ part i rs else part i rs)
        ≡ (if b then tick k r else 0) + ticks k (part i rs)
    either i true = ticks_cons k r (part i rs)
    either i false = omega arith

-- by an order in whose parts the histories come first, no more advances were told than it counts
module _ (c : Config) (limits : IsConfig c) (w : World (Host Managed)) (order : List Record)
    (last : Memory) (legal : ServesAll c (first c) order last)
    (parts : (i : ℕ) (n : Node (Host Managed)) → slice_get w.nodes i ≡ Some n
    → (more : List Record) × (part i order ≡ n.core.history ++ more)) (k : ℕ) where
  node_ticks : (i : ℕ) → advanced_by k (slice_get w.nodes i) ≤ ticks k (part i order)
  node_ticks i = elim (slice_get_cases w.nodes i).1 [
    | inl there ↦
        (let rest = parts i there.0 there.2 in
        let a : ticks k (part i order) ≡ ticks k there.0.core.history + ticks k rest.0 =
        ap (ticks k) rest.1 ∙ ticks_append k there.0.core.history rest.0 in
        let b : advanced_by k (slice_get w.nodes i) ≡ ticks k there.0.core.history =
        ap (advanced_by k) there.2 in
        omega (arith, a, b))
    | inr past ↦
        (let b : advanced_by k (slice_get w.nodes i) ≡ 0 = ap (advanced_by k) past.1 in
        omega (arith, b))
  ]

  pub advances_in : (count : ℕ) → slice_get last.counts k ≡ Some count → advances k w ≤ count
  advances_in count at =
      let a : advances k w ≤ sum_below (length w.nodes) (λ i. ticks k (part i order)) =
      sum_le (length w.nodes) (λ i. advanced_by k (slice_get w.nodes i)) _
      (λ i lt. node_ticks i) in
      let b = part_ticks k (length w.nodes) order in
      let sized : IsSized c last =
      leads_sized c (first c) last order limits (first_sized c) legal in
      let within : k < length last.counts = slice_get_within last.counts k count at in
      let many = sized.counts in
      let zeros = (first_sized c).counts in
      let rises =
      rises_all c k _ order (first c) last
      (slice_get-get_or (first c).counts k 0 (omega (arith, within, many, zeros))) legal in
      let same : rises.count ≡ count = same_Some rises.count count (sym rises.there ∙ at) in
      let least = rises.least in
      omega (arith, a, b, same, least)

module _ (opened : Opening) (c : Config) (limits : IsConfig c) (programs : List Program)
    (w : World (Host Managed))
    (f : FollowsInOrder managed_ops (managed_start opened) c programs w) where
  -- what each node was told is in the order
  module _ (u : AreUnblocked managed_ops c (fifo_of w f.posted).cores) (k : ℕ) where
    told_part : (i : ℕ) (n : Host Managed) → Stands managed_ops i n u.order u.last
        → (more : List Record) × (part i u.order ≡ n.history ++ more)
    told_part i n (waits none is) = ([], is ∙ sym (append-nil n.history))
    told_part i n (replied called answer asked next along calls is) = (_, is)
    told_part i n (reached j least count asked at le next is) = ([], is ∙ sym (append-nil n.history))
    told_part i n (tried called page w asked of handed next is) = ([], is ∙ sym (append-nil n.history))

    advances_few : (count : ℕ) → slice_get u.last.counts k ≡ Some count → advances k w ≤ count
    advances_few =
        advances_in c limits w u.order u.last u.legal
        (λ i n there. told_part i n.core (u.each i n.core (core_of w.nodes i n there))) k

  -- so a call that is due has an answer
  pub no_answer_due : (u : AreUnblocked managed_ops c (fifo_of w f.posted).cores)
      (a : Option Call) (along : List Call) → IsDue w a → HasNoAnswer u.last (in_progress a along)
      → ⊥
  no_answer_due u None along due none = due
  no_answer_due u (Some called) (next ∷ calls) due none = none
  no_answer_due u (Some (call.Await k least)) [] due none =
      (let a = advances_few u k none.0 none.1 in
      let b = none.2 in
      absurd (omega (arith, a, b, due)))
  no_answer_due u (Some called) [] due none = none

  -- and what is due stays due
  module _ (end : World (Host Managed))
      (g : FollowsInOrder managed_ops (managed_start opened) c programs end)
      (later : AreLater (fifo_of w f.posted) (fifo_of end g.posted)) where
    node_later : (k i : ℕ)
        → advanced_by k (slice_get w.nodes i) ≤ advanced_by k (slice_get end.nodes i)
    node_later k i = elim (slice_get_cases w.nodes i).1 [
      | inl there ↦
          (let m = later.at i there.0.core (core_of w.nodes i there.0 there.2) in
          let node =
          map-places (λ (z : Node (Host Managed)). z.core) end.nodes i m.0 m.1 in
          let b : advanced_by k (slice_get w.nodes i) ≡ ticks k there.0.core.history =
          ap (advanced_by k) there.2 in
          let d : advanced_by k (slice_get end.nodes i) ≡ ticks k node.0.core.history =
          ap (advanced_by k) node.1 in
          let e : ticks k node.0.core.history
          ≡ ticks k there.0.core.history + ticks k m.2.more =
          ap (λ (h : Host Managed). ticks k h.history) node.2 ∙ ap (ticks k) m.2.history
          ∙ ticks_append k there.0.core.history m.2.more in
          omega (arith, b, d, e))
      | inr past ↦
          (let b : advanced_by k (slice_get w.nodes i) ≡ 0 = ap (advanced_by k) past.1 in
          omega (arith, b))
    ]

    advances_later : (k : ℕ) → advances k w ≤ advances k end
    advances_later k =
        let same : length w.nodes ≡ length end.nodes = f.follows.nodes ∙ sym g.follows.nodes in
        subst (λ l. advances k w
        ≤ sum_below l (λ i. advanced_by k (slice_get end.nodes i))) same
        (sum_le (length w.nodes) (λ i. advanced_by k (slice_get w.nodes i)) _
        (λ i lt. node_later k i))

    pub due_later : (a : Option Call) → IsDue w a → IsDue end a
    due_later None due = due
    due_later (Some (call.Await k least)) due =
        (let a = advances_later k in omega (arith, a, due))
    due_later (Some called) due = due
