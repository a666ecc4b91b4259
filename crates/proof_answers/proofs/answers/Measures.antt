-- What moves do to a FIFO world, by a measure: something grows at a node, or what is left to be
-- done is less, or all stands. So do moves that follow one another.
use Rattle.std.proofs.Common.{◌≡◌, ◌≤◌, ◌<◌, ◌⊎◌, ℕ, [], ◌∷◌, ◌++◌, length, slice_get, Some, refl, sym, ap, ◌∙◌, subst, arith, inl, inr}
use Rattle.std.proofs.lemmas.List.{length-append}
use Rattle.std.proofs.lemmas.Option.{same_Some}
use Rattle.ivy_model.specs.declared.Config.{Config}
use Rattle.ivy_model.specs.declared.Record.{Record}
use Rattle.ivy_moves.specs.stated.FifoWorld.{FifoWorld}
use Rattle.ivy_host.specs.stated.Hosts.{Host}
use Rattle.ivy_host.specs.stated.Managers.{Managed}
use Rattle.proof_worlds.proofs.progress.Lowering.{work, way}
use Rattle.proof_answers.proofs.answers.Descents.{Descends, descends_then, descends_within}
use Rattle.proof_answers.proofs.answers.Later.{IsLaterAt, AreLater, AreEach, all_later, all_then, each_then, no_shorter}
use Rattle.proof_answers.proofs.answers.Weights.{cost}

-- some node has more in the one world than in the other
pub record HasMore (More : Host Managed → Host Managed → Type 0) (o u : FifoWorld (Host Managed))
    : Type 0 where
  pub node : ℕ
  pub before : Host Managed
  pub after : Host Managed
  pub there : slice_get o.cores node ≡ Some before
  pub now : slice_get u.cores node ≡ Some after
  pub more : More before after

-- what it has more may be told in another way
pub more_as : (More Other : Host Managed → Host Managed → Type 0) (o u : FifoWorld (Host Managed))
    (g : HasMore More o u) → Other g.before g.after → HasMore Other o u
more_as More Other o u g more = record {
  node = g.node;
  before = g.before;
  after = g.after;
  there = g.there;
  now = g.now;
  more = more;
}

-- so it has where the world was an earlier one, or is a later one
module _ (More : Host Managed → Host Managed → Type 0) where
  pub more_later : ((n m l : Host Managed) → IsLaterAt n m → More m l → More n l)
      → (o u v : FifoWorld (Host Managed)) → AreLater o u → HasMore More u v → HasMore More o v
  more_later before o u v later g =
      let was = later.back g.node g.before g.there in
      let next = later.at g.node was.0 was.1 in
      let same : next.0 ≡ g.before = same_Some next.0 g.before (sym next.1 ∙ g.there) in
      record {
        node = g.node;
        before = was.0;
        after = g.after;
        there = was.1;
        now = g.now;
        more = before was.0 next.0 g.after next.2
            (subst (λ (h : Host Managed). More h g.after) (sym same) g.more);
      }

  pub more_on : ((n m l : Host Managed) → IsLaterAt m l → More n m → More n l)
      → (o u v : FifoWorld (Host Managed)) → AreLater u v → HasMore More o u → HasMore More o v
  more_on after o u v later g =
      let last = later.at g.node g.after g.now in
      record {
        node = g.node;
        before = g.before;
        after = last.0;
        there = g.there;
        now = last.1;
        more = after g.before g.after last.0 last.2 g.more;
      }

-- a longer history
abbrev pub IsLonger : Host Managed → Host Managed → Type 0
IsLonger n m = length n.history < length m.history

abbrev pub HasLonger : FifoWorld (Host Managed) → FifoWorld (Host Managed) → Type 0
HasLonger o u = HasMore IsLonger o u

pub record_longer : (n m : Host Managed) (r : Record) → m.history ≡ n.history ++ r ∷ []
    → IsLonger n m
record_longer n m r is =
    (let a = ap length is ∙ length-append n.history (r ∷ []) in omega (arith, a))

pub longer_before : (n m l : Host Managed) → IsLaterAt n m → IsLonger m l → IsLonger n l
longer_before n m l later less = (let le = no_shorter n m later in omega arith)

pub longer_after : (n m l : Host Managed) → IsLaterAt m l → IsLonger n m → IsLonger n l
longer_after n m l later less = (let le = no_shorter m l later in omega arith)

-- What may grow at a node, what each node keeps else, and the weight of what is left to be done.
pub record Measure (c : Config) : Type 1 where
  pub Grows : Host Managed → Host Managed → Type 0
  pub Keeps : Host Managed → Host Managed → Type 0
  pub weight : FifoWorld (Host Managed) → ℕ
  pub grows_before : (n m l : Host Managed) → IsLaterAt n m → Grows m l → Grows n l
  pub grows_after : (n m l : Host Managed) → IsLaterAt m l → Grows n m → Grows n l
  pub keeps_none : (n : Host Managed) → Keeps n n
  pub keeps_then : (n m l : Host Managed) → Keeps n m → Keeps m l → Keeps n l
  pub works : (o : FifoWorld (Host Managed)) → work c o cost ≤ weight o

module _ {c : Config} (k : Measure c) (o u : FifoWorld (Host Managed)) where
  -- less is left, or no more, and the messages have less far to go
  abbrev pub Falls : Type 0
  Falls = Descends (k.weight o) (way c o) (k.weight u) (way c u)

  pub data Progress : Type 0 where
    grew : HasMore k.Grows o u → Progress
    fell : Falls → Progress

  -- nothing was posted or delivered, no more is left, and each node keeps what it has
  pub record Stood : Type 0 where
    pub posted : u.posted ≡ o.posted
    pub delivered : u.delivered ≡ o.delivered
    pub weight : k.weight u ≤ k.weight o
    pub hops : way c u ≤ way c o
    pub kept : AreEach k.Keeps o u

  pub record After : Type 0 where
    pub later : AreLater o u
    pub comes : Progress ⊎ Stood

module _ {c : Config} (k : Measure c) where
  pub after_none : (o : FifoWorld (Host Managed)) → After k o o
  after_none o = record {
    later = all_later o;
    comes = inr (record {
      posted = refl;
      delivered = refl;
      weight = omega arith;
      hops = omega arith;
      kept = λ i n is. (n, is, k.keeps_none n);
    });
  }

  falls_then : (o u v : FifoWorld (Host Managed)) → Falls k o u → Falls k u v → Falls k o v
  falls_then o u v =
      descends_then (k.weight o) (way c o) (k.weight u) (way c u) (k.weight v) (way c v)

  falls_on : (o u v : FifoWorld (Host Managed)) → Falls k o u → Stood k u v → Falls k o v
  falls_on o u v f s =
      descends_within (k.weight o) (way c o) (k.weight o) (way c o) (k.weight u) (way c u)
      (k.weight v) (way c v) (omega arith) (omega arith) f s.weight s.hops

  stood_falls : (o u v : FifoWorld (Host Managed)) → Stood k o u → Falls k u v → Falls k o v
  stood_falls o u v s f =
      descends_within (k.weight o) (way c o) (k.weight u) (way c u) (k.weight v) (way c v)
      (k.weight v) (way c v) s.weight s.hops f (omega arith) (omega arith)

  -- both make progress where one of them did
  either_progress : (o u v : FifoWorld (Host Managed)) → After k o u → After k u v
      → Progress k o u ⊎ Progress k u v → Progress k o v
  either_progress o u v a b (inl (grew g)) =
      grew (more_on k.Grows k.grows_after o u v b.later g)
  either_progress o u v a b (inr (grew g)) =
      grew (more_later k.Grows k.grows_before o u v a.later g)
  either_progress o u v a b (inl (fell f)) = by b.comes
    where
      by : Progress k u v ⊎ Stood k u v → Progress k o v
      by (inl (grew g)) = grew (more_later k.Grows k.grows_before o u v a.later g)
      by (inl (fell g)) = fell (falls_then o u v f g)
      by (inr s) = fell (falls_on o u v f s)
  either_progress o u v a b (inr (fell f)) = by a.comes
    where
      by : Progress k o u ⊎ Stood k o u → Progress k o v
      by (inl (grew g)) = grew (more_on k.Grows k.grows_after o u v b.later g)
      by (inl (fell g)) = fell (falls_then o u v g f)
      by (inr s) = fell (stood_falls o u v s f)

  pub after_then : (o u v : FifoWorld (Host Managed)) → After k o u → After k u v → After k o v
  after_then o u v a b =
      record { later = all_then o u v a.later b.later; comes = by a.comes b.comes }
    where
      by : Progress k o u ⊎ Stood k o u → Progress k u v ⊎ Stood k u v
          → Progress k o v ⊎ Stood k o v
      by (inl p) q = inl (either_progress o u v a b (inl p))
      by (inr s) (inl p) = inl (either_progress o u v a b (inr p))
      by (inr s) (inr t) = inr (record {
        posted = t.posted ∙ s.posted;
        delivered = t.delivered ∙ s.delivered;
        weight = (let x = s.weight in let y = t.weight in omega arith);
        hops = (let x = s.hops in let y = t.hops in omega arith);
        kept = each_then k.Keeps k.keeps_then o u v s.kept t.kept;
      })

  -- three that do not all stand
  pub three_progress : (o u v z : FifoWorld (Host Managed)) → After k o u → After k u v
      → After k v z → (Stood k o u → Stood k u v → Stood k v z → ⊥)
      → AreLater o z × Progress k o z
  three_progress o u v z a b d none =
      (all_then o u z a.later rest.later, by a.comes b.comes d.comes)
    where
      rest : After k u z
      rest = after_then u v z b d

      by : Progress k o u ⊎ Stood k o u → Progress k u v ⊎ Stood k u v
          → Progress k v z ⊎ Stood k v z → Progress k o z
      by (inl p) q r = either_progress o u z a rest (inl p)
      by (inr s) (inl p) r =
          either_progress o u z a rest (inr (either_progress u v z b d (inl p)))
      by (inr s) (inr t) (inl p) =
          either_progress o u z a rest (inr (either_progress u v z b d (inr p)))
      by (inr s) (inr t) (inr e) = absurd (none s t e)
