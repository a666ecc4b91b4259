-- What is served at an idle entry keeps what holds of it, for every manager that keeps the laws,
-- and posts only what can be sent.
use Rattle.std.proofs.Common.{◌≡◌, ◌≢◌, ℕ, suc, ◌<◌, ◌≤◌, ◌^◌, inl, inr, eqb, Bool, true, false, not, ◌&&◌, ◌||◌, List, [], ◌∷◌, length, refl, sym, ap, ◌∙◌, subst, arith, if◌then◌else◌}
use Rattle.std.specs.Prelude.{All}
use Rattle.std.specs.FinSet as set
use Rattle.std.proofs.lemmas.Bool.Decides.{eqb_tells}
use Rattle.std.proofs.lemmas.Bool.{cases_Bool}
use Rattle.std.proofs.lemmas.List.Elements.{All-from_recursion, All-push}
use Rattle.ivy_model.specs.declared.Config.{Config}
use Rattle.ivy_model.specs.stated.Config.{IsConfig}
use Rattle.ivy_wire.specs.declared.Content.TheVariants as content
use Rattle.ivy_wire.specs.stated.Data.{Content}
use Rattle.ivy_wire.specs.stated.Spelling.{FitsContent, FitsParcel}
use Rattle.ivy_wire.specs.stated.Posts.{parcel_to}
use Rattle.ivy_pagetable.specs.stated.Entries.{without, copying, owning}
use Rattle.ivy_pagetable.specs.declared.PutOff.{PutOff}
use Rattle.ivy_pagetable.specs.declared.Request.{Request}
use Rattle.ivy_pagetable.specs.declared.Request.TheVariants as request
use Rattle.ivy_pagetable.specs.stated.NodeSets.{Nodes, bits_of}
use Rattle.ivy_pagetable.specs.stated.Manager.{Ops}
use Rattle.ivy_pagetable.specs.Manager.{Laws, KeepsElsewhere}
use Rattle.ivy_pagetable.proofs.Bits.{empty_below, insert_below, remove_below, bits_of_below}
use Rattle.ivy_pagetable.proofs.NodeSets.{tied, untied}
use Rattle.ivy_coherence.specs.stated.Serving.{Serving, served, served_by_owner, served_by_other, all_served}
use Rattle.ivy_coherence.specs.stated.IdleSound.{CanBeServed, AreOthers, IsSoundIdle}
use Rattle.ivy_coherence.proofs.keeping.NextHop.{IsManaged, forwarded-node, given-node, invalidated-node, forwarded-away, given-away, invalidated-away}

pub all_none : {X : Type 0} (P : X → Type 0) → All P []
all_none P = All-from_recursion P [] tt

pub all_one : {X : Type 0} (P : X → Type 0) (x : X) → P x → All P (x ∷ [])
all_one P x h = All-from_recursion P (x ∷ []) (h, tt)

pub all_head : {X : Type 0} (P : X → Type 0) (x : X) (xs : List X) → All P (x ∷ xs) → P x
all_head P x xs h = h 0 x (omega arith)

pub all_tail : {X : Type 0} (P : X → Type 0) (x : X) (xs : List X) → All P (x ∷ xs) → All P xs
all_tail P x xs h k d lt = h (suc k) d (omega (arith, lt))

-- a message to another node
pub parcel_fits : (c : Config) (me dest origin call : ℕ) (body : Content) → me < c.nodes
    → dest < c.nodes → dest ≢ me → origin < c.nodes → 1 ≤ call → call < 2 ^ 64 → FitsContent c body
    → FitsParcel c me (parcel_to me dest origin call body)
parcel_fits c me dest origin call body here there apart by from to fits = record {
  source = refl;
  here = here;
  dest = there;
  apart = apart;
  message = record { origin = by; call_from = from; call_to = to; content = fits };
}

-- the sets of nodes that an entry can have
pub no_others : (c : Config) (me : ℕ) → AreOthers c me set.empty
no_others c me = record { below = empty_below c.nodes; apart = set.contains-empty _ me }

pub one_other : (c : Config) (me node : ℕ) (s : Nodes) → AreOthers c me s → node < c.nodes
    → node ≢ me → AreOthers c me (set.insert s node)
one_other c me node s others below apart = record {
  below = insert_below c.nodes s node others.below below;
  apart = tied me node s
      ∙ elim (eqb_tells node me) [
        | inl x ↦ absurd (apart x.1)
        | inr x ↦
            ap (λ b. b || set.contains s me) x.0 ∙ others.apart
      ];
}

pub fewer_others : (c : Config) (me node : ℕ) (s : Nodes) → AreOthers c me s
    → AreOthers c me (set.remove s node)
fewer_others c me node s others = record {
  below = remove_below c.nodes s node others.below;
  apart = untied me node s ∙ ap (λ b. not (eqb node me) && b) others.apart
      ∙ and_false (not (eqb node me));
}
  where
    and_false : (a : Bool) → (a && false) ≡ false
    and_false true = refl
    and_false false = refl

pub without-sound : (c : Config) (me : ℕ) → IsSoundIdle c me without
without-sound c me = record { owned = λ o. absurd cc; copies = no_others c me }

pub copying-sound : (c : Config) (me : ℕ) → IsSoundIdle c me copying
copying-sound c me = record { owned = λ o. absurd cc; copies = no_others c me }

pub owning-sound : (c : Config) (me : ℕ) → IsSoundIdle c me owning
owning-sound c me = record { owned = λ o. refl; copies = no_others c me }

-- what holds while messages are served at page `page` of node `me`, whose manager was `first`
pub record IsServing {S : Type 0} (ops : Ops S) (c : Config) (me page : ℕ) (first : S)
    (v : Serving S) : Type 0 where
  pub keeps : KeepsElsewhere ops first page v.manager
  pub hop : ops.next_hop v.manager page < c.nodes
  pub away : v.idle.owner ≡ false → ops.next_hop v.manager page ≢ me
  pub idle : IsSoundIdle c me v.idle
  pub fits : All (FitsParcel c me) v.posted

-- where it happens
pub record IsPlace {S : Type 0} (ops : Ops S) (c : Config) (me page : ℕ) (bytes : List ℕ)
    (first : S) : Type 0 where
  pub limits : IsConfig c
  pub here : me < c.nodes
  pub inside : page < c.pages
  pub sized : length bytes ≡ c.page_size
  pub mine : ops.me first ≡ me
  pub managed : ops.size first ≡ c.pages
  pub nodes : ops.nodes first ≡ c.nodes

module _ {S : Type 0} {ops : Ops S} where
  pub keeps_all : (m : S) (page : ℕ) → KeepsElsewhere ops m page m
  keeps_all m page = record { me = refl; size = refl; nodes = refl; others = λ q h. refl }

  pub keeps_on : (a b d : S) (page : ℕ) → KeepsElsewhere ops a page b → KeepsElsewhere ops b page d
      → KeepsElsewhere ops a page d
  keeps_on a b d page one two =
      record {
        me = two.me ∙ one.me;
        size = two.size ∙ one.size;
        nodes = two.nodes ∙ one.nodes;
        others = λ q h. two.others q h ∙ one.others q h;
      }

module _ {S : Type 0} {ops : Ops S} (laws : Laws ops) (c : Config) (me page : ℕ) (bytes : List ℕ)
    (first : S) (at : IsPlace ops c me page bytes first) where
  managed_now : (v : Serving S) → IsServing ops c me page first v
      → IsManaged ops c me page v.manager
  managed_now v s = record {
    here = at.here;
    mine = s.keeps.me ∙ at.mine;
    nodes = s.keeps.nodes ∙ at.nodes;
    inside =
        let a = s.keeps.size in let b = at.managed in let d = at.inside in omega (arith, a, b, d);
    hop = s.hop;
  }

  owner-keeps : (v : Serving S) (origin call : ℕ) (k : Request) → IsServing ops c me page first v
      → v.idle.owner ≡ true → origin < c.nodes → origin ≢ me → 1 ≤ call → call < 2 ^ 64
      → IsServing ops c me page first (served_by_owner ops me page bytes v origin call k)
  owner-keeps v origin call request.Read s own by foreign from to = record {
    keeps = s.keeps;
    hop = s.hop;
    away = λ o. absurd cc;
    idle = record {
      owned = λ o. refl;
      copies = one_other c me origin v.idle.copies s.idle.copies by foreign;
    };
    fits = All-push (FitsParcel c me) v.posted _ s.fits
        (parcel_fits c me origin origin call (content.ReadRep page bytes) at.here by foreign by from
        to (at.inside, at.sized));
  }
  owner-keeps v origin call request.Write s own by foreign from to = record {
    keeps = keeps_on first v.manager (ops.on_given v.manager page origin) page s.keeps
        (laws.keeps_given v.manager page origin);
    hop = given-node laws c me page v.manager (managed_now v s) origin by;
    away = λ o. given-away laws c me page v.manager (managed_now v s) origin foreign;
    idle = without-sound c me;
    fits = All-push (FitsParcel c me) v.posted _ s.fits
        (parcel_fits c me origin origin call
        (content.WriteRep page (bits_of (set.remove v.idle.copies origin)) bytes) at.here by
        foreign by from to (
          at.inside,
          bits_of_below c.nodes _ (fewer_others c me origin v.idle.copies s.idle.copies).below,
          at.sized,
        ));
  }
  owner-keeps v origin call request.Invalidate s own by foreign from to =
      record { keeps = s.keeps; hop = s.hop; away = s.away; idle = s.idle; fits = s.fits }

  other-keeps : (v : Serving S) (origin call : ℕ) (k : Request) → IsServing ops c me page first v
      → v.idle.owner ≡ false → origin < c.nodes → origin ≢ me → 1 ≤ call → call < 2 ^ 64
      → IsServing ops c me page first (served_by_other ops me page bytes v origin call k)
  other-keeps v origin call request.Read s free by foreign from to = record {
    keeps = keeps_on first v.manager (ops.on_forward v.manager page false origin) page s.keeps
        (laws.keeps_forward v.manager page false origin);
    hop = forwarded-node laws c me page v.manager (managed_now v s) false origin by;
    away = λ o. forwarded-away laws c me page v.manager (managed_now v s) false origin foreign
        (s.away free);
    idle = s.idle;
    fits = All-push (FitsParcel c me) v.posted _ s.fits
        (parcel_fits c me (ops.next_hop v.manager page) origin call (content.ReadReq page) at.here
        s.hop (s.away free) by from to at.inside);
  }
  other-keeps v origin call request.Write s free by foreign from to = record {
    keeps = keeps_on first v.manager (ops.on_forward v.manager page true origin) page s.keeps
        (laws.keeps_forward v.manager page true origin);
    hop = forwarded-node laws c me page v.manager (managed_now v s) true origin by;
    away = λ o. forwarded-away laws c me page v.manager (managed_now v s) true origin foreign
        (s.away free);
    idle = s.idle;
    fits = All-push (FitsParcel c me) v.posted _ s.fits
        (parcel_fits c me (ops.next_hop v.manager page) origin call (content.WriteReq page) at.here
        s.hop (s.away free) by from to at.inside);
  }
  other-keeps v origin call request.Invalidate s free by foreign from to = record {
    keeps = keeps_on first v.manager (ops.on_invalidated v.manager page origin) page s.keeps
        (laws.keeps_invalidated v.manager page origin);
    hop = invalidated-node laws c me page v.manager (managed_now v s) origin by;
    away = λ o. invalidated-away laws c me page v.manager (managed_now v s) origin foreign
        (s.away free);
    idle = without-sound c me;
    fits = All-push (FitsParcel c me) v.posted _ s.fits
        (parcel_fits c me origin origin call (content.InvalAck page) at.here by foreign by from to
        at.inside);
  }

  served-keeps : (v : Serving S) (q : PutOff) → IsServing ops c me page first v → CanBeServed c me q
      → IsServing ops c me page first (served ops me page bytes v q)
  served-keeps v q s can =
      elim (cases_Bool v.idle.owner) [
        | inl o ↦
            subst (IsServing ops c me page first)
            (sym (ap
            (λ b. if b then served_by_owner ops me page bytes v q.origin q.call q.kind
            else served_by_other ops me page bytes v q.origin q.call q.kind) o))
            (owner-keeps v q.origin q.call q.kind s o can.origin can.foreign can.call_from
            can.call_to)
        | inr o ↦
            subst (IsServing ops c me page first)
            (sym (ap
            (λ b. if b then served_by_owner ops me page bytes v q.origin q.call q.kind
            else served_by_other ops me page bytes v q.origin q.call q.kind) o))
            (other-keeps v q.origin q.call q.kind s o can.origin can.foreign can.call_from
            can.call_to)
      ]

  pub all_served-keeps : (v : Serving S) (qs : List PutOff) → IsServing ops c me page first v
      → All (CanBeServed c me) qs
      → IsServing ops c me page first (all_served ops me page bytes v qs)
  all_served-keeps v [] s can = s
  all_served-keeps v (q ∷ qs) s can =
      all_served-keeps (served ops me page bytes v q) qs
      (served-keeps v q s (all_head (CanBeServed c me) q qs can))
      (all_tail (CanBeServed c me) q qs can)
