-- What a site does with a string that comes and with one that it held, from what its parts did. `v`
-- is what the fields are seen as, `n` the value.
use Rattle.std.proofs.Common.{◌≡◌, ◌≢◌, ℕ, ◌+◌, List, [], ◌∷◌, ◌++◌, true, false, Option, Some, None, Contains, Result, Ok, Err, MatchResult, MatchOption, length, refl, sym, ap, subst, ◌∙◌, arith, inl, inr}
use Rattle.std.specs.Prelude.{IfSome}
use Rattle.std.proofs.lemmas.Bool.{eq-eqb}
use Rattle.std.proofs.lemmas.List.{length-append}
use Rattle.ivy_link.specs.stated.LinkLimits.{most_ahead}
use Rattle.ivy_model.specs.declared.Config.{Config}
use Rattle.ivy_model.specs.stated.Config.{IsConfig}
use Rattle.ivy_model.specs.declared.Fault.{Fault}
use Rattle.ivy_model.specs.Wants.{RanOut}
use Rattle.ivy_wire.specs.declared.FrameKind.{FrameKind}
use Rattle.ivy_wire.specs.declared.frame.Frame as frame
use Rattle.ivy_wire.specs.stated.Data.{Frame}
use Rattle.ivy_wire.specs.stated.DecodeErrors.{checked}
use Rattle.ivy_wire.specs.stated.Reading.{frame_at}
use Rattle.ivy_wire.specs.stated.Spelling.{Spells, frame_kind}
use Rattle.ivy_wire.proofs.Frames.{spelled_once}
use Rattle.ivy_link.specs.declared.Verdict.{Verdict}
use Rattle.ivy_link.specs.declared.Verdict.TheVariants as verdict
use Rattle.ivy_link.specs.stated.Linked.{Linked, peer_at}
use Rattle.ivy_link.specs.stated.Accepted.{offered}
use Rattle.ivy_link.specs.Windows.{with_string}
use Rattle.ivy_link.specs.Holding.{Holding, link_of, window_at, can_hold_frame, place_in, after_hold, after_taking, ready_of}
use Rattle.ivy_link.specs.Outboxes.{Outbox, holding_of, with_holding}
use Rattle.ivy_site.specs.SiteView.{SiteView, holding_at, after_delivery, box_of, boxed}
use Rattle.ivy_site.specs.Sites.{early_at, IsSite, IsHeld, SiteDelivers}
use Rattle.ivy_site.specs.Sites.{holding_in, without_ready}
use Rattle.ivy_site.specs.Sites.{GoesOnOnce, SiteGoesOn, FollowsDelivery, AfterDelivery, GoesAsFar, DeliversWhole}
use Rattle.ivy_site.specs.Inside.{CameEarlyAs, Holds, HoldsString, Hears, Receives}
use Rattle.ivy_site.proofs.HeldStrings.{CameEarly, IsNextOf, holding-holds, taking-holds, put-back-same}
use Rattle.ivy_link.proofs.Boxes.{link-kept}

-- a string spells one frame
pub spelled_same : (c : Config) → IsConfig c → (f g : Frame) (bytes : List ℕ) → Spells c f bytes
    → Spells c g bytes → f ≡ g
spelled_same c limits f g bytes x y =
    let a : (checked c bytes ≡ Ok (frame_kind f.body)) × (frame_at (frame_kind f.body) bytes ≡ f) =
    spelled_once c f bytes limits x in
    let b : (checked c bytes ≡ Ok (frame_kind g.body)) × (frame_at (frame_kind g.body) bytes ≡ g) =
    spelled_once c g bytes limits y in
    let both : Ok (frame_kind f.body) ≡ Ok (frame_kind g.body) = sym a.0 ∙ b.0 in
    let kinds : frame_kind f.body ≡ frame_kind g.body = cc in
    sym a.1 ∙ (ap (λ k. frame_at k bytes) kinds ∙ b.1)

-- and then it is read
refused-not : (r : Result FrameKind Fault) (k : FrameKind) (Q : Fault → Type 0) → r ≡ Ok k
    → MatchResult r (λ x. false ≡ true) Q → ⊥
refused-not (Ok x) k Q is why = absurd cc
refused-not (Err e) k Q is why =
    let wrong : Err e ≡ Ok k = is in absurd cc

pub read_there : (c : Config) → IsConfig c → (f : Frame) (bytes : List ℕ) (Q : Fault → Type 0)
    → Spells c f bytes → MatchResult (checked c bytes) (λ x. false ≡ true) Q → ⊥
read_there c limits f bytes Q x why =
    refused-not (checked c bytes) (frame_kind f.body) Q (spelled_once c f bytes limits x).0 why

-- a string is held
held_link : {B : Type 0} (h : Holding) (f : frame.Frame B) (bytes : List ℕ)
    → link_of (after_hold h f bytes) ≡ link_of h
held_link h f bytes =
    link-kept (can_hold_frame h f) h f.source
    (with_string (window_at h f.source) (place_in h f) bytes)

pub boxed_held : {B : Type 0} (v : SiteView) (f : frame.Frame B) (bytes : List ℕ) (box : Outbox)
    → box ≡ with_holding (box_of v) (after_hold (holding_of (box_of v)) f bytes)
    → boxed v box ≡ record v { held = (after_hold (holding_at v) f bytes).held }
boxed_held v f bytes box is =
    ap (boxed v) is
    ∙ ap (λ (l : Linked). record v {
      node = record { core = v.node.core; link = l };
      held = (after_hold (holding_at v) f bytes).held;
    }) (held_link (holding_at v) f bytes)

pub came_early : (n v : SiteView) → v ≡ n → (k : Config) (f : Frame) (string bytes : List ℕ)
    → Contains (early_at n) string → k ≡ v.config → Spells k f bytes → bytes ≡ string
    → CameEarly v f string
came_early n v same k f string bytes came config spelled is = record {
  early = subst (λ (x : SiteView). Contains (early_at x) string) (sym same) came;
  spelled = subst (Spells v.config f) is (subst (λ c. Spells c f bytes) config spelled);
}

-- it is held where the frame in it says
pub holds_string : (n v : SiteView) → v ≡ n
    → (k : Config) (f : Frame) (string bytes : List ℕ) (new : SiteView) → IsConfig k → k ≡ v.config
    → Spells k f bytes → bytes ≡ string → new ≡ holding_in v f string → HoldsString string n new
holds_string n v same k f string bytes new limits config spelled is held g there =
    let mine : Spells n.config f string =
    subst (λ (x : SiteView). Spells x.config f string) same
    (subst (Spells v.config f) is (subst (λ c. Spells c f bytes) config spelled)) in
    let well : IsConfig n.config =
    subst (λ (x : SiteView). IsConfig x.config) same (subst IsConfig config limits) in
    held ∙ (ap (λ x. holding_in v x string) (spelled_same n.config well f g string mine there)
    ∙ ap (λ x. holding_in x g string) same)

pub never_refused : (n v : SiteView) → v ≡ n
    → (k : Config) (string bytes : List ℕ) (new : SiteView) (Q : Fault → Type 0) → IsConfig k
    → k ≡ v.config → bytes ≡ string → MatchResult (checked k bytes) (λ x. false ≡ true) Q
    → HoldsString string n new
never_refused n v same k string bytes new Q limits config is why g there =
    let at : n.config ≡ k = sym (ap (λ (x : SiteView). x.config) same) ∙ sym config in
    absurd (read_there k limits g bytes Q
    (subst (Spells k g) (sym is) (subst (λ c. Spells c g string) at there)) why)

pub holding_site : (v : SiteView) (f : Frame) (bytes : List ℕ) → IsSite v → CameEarly v f bytes
    → IsSite (holding_in v f bytes)
holding_site v f bytes s came = record {
  config = s.config;
  me = s.me;
  asking = s.asking;
  fetched = s.fetched;
  made = record {
    effect = s.made.effect;
    happen = s.made.happen;
    node = s.made.node;
    taken = s.made.taken;
    waits = s.made.waits;
  };
  held = holding-holds v f bytes s.held came;
}

-- the string that is ready is taken out
pub boxed_taken : (v : SiteView) (from : ℕ) (box : Outbox)
    → box ≡ with_holding (box_of v) (after_taking (holding_of (box_of v)) from)
    → boxed v box ≡ without_ready v from
boxed_taken v from box is = ap (boxed v) is

pub taking_site : (v : SiteView) (from : ℕ) → IsSite v → IsSite (without_ready v from)
taking_site v from s = record {
  config = s.config;
  me = s.me;
  asking = s.asking;
  fetched = s.fetched;
  made = record {
    effect = s.made.effect;
    happen = s.made.happen;
    node = s.made.node;
    taken = s.made.taken;
    waits = s.made.waits;
  };
  held = taking-holds v from s.held;
}

pub taken_held : (n v : SiteView) → v ≡ n → IsSite v → (from : ℕ) (o : Option (List ℕ))
    → o ≡ ready_of (holding_at v) from → IfSome o (IsHeld n from 0)
taken_held n v same s from None is = tt
taken_held n v same s from (Some bytes) is =
    subst (λ (x : SiteView). IsHeld x from 0 bytes) same (s.held from 0 bytes (sym is))

-- a string that comes, before the site goes on
nothing_held : (w : Verdict) (f : Frame) (bytes : List ℕ) (mid : SiteView) → w ≢ verdict.Ahead
    → Holds w f bytes mid mid
nothing_held verdict.NotMine f bytes mid ne = refl
nothing_held verdict.Next f bytes mid ne = refl
nothing_held verdict.Repeat f bytes mid ne = refl
nothing_held verdict.Ahead f bytes mid ne = absurd (ne refl)

pub hears : (bytes : List ℕ) (w : Verdict) (from : ℕ) (early : Option (List ℕ)) (old new : SiteView)
    → IsConfig old.config → (f : Frame) → Spells old.config f bytes → f.source ≡ from
    → SiteDelivers bytes w old new → CameEarlyAs w bytes new
    → MatchOption early (w ≢ verdict.Ahead) (λ string. (string ≡ bytes) × (w ≡ verdict.Ahead))
    → Hears bytes w from early old new
hears bytes w from None old new limits f spelled source d came early = record {
  first = d;
  from = ap (λ (x : Frame). x.source)
      (sym (spelled_same old.config limits f d.frame bytes spelled d.spelled)) ∙ source;
  early = early;
}
hears bytes w from (Some string) old new limits f spelled source d came early = record {
  first = d;
  from = ap (λ (x : Frame). x.source)
      (sym (spelled_same old.config limits f d.frame bytes spelled d.spelled)) ∙ source;
  early = (
    early.0,
    subst (Contains (early_at new)) (sym early.0)
        (subst (λ x. CameEarlyAs x bytes new) early.1 came),
    early.1,
  );
}

pub received_none : (bytes : List ℕ) (w : Verdict) (from : ℕ) (early : Option (List ℕ))
    (old mid : SiteView) → early ≡ None → Hears bytes w from early old mid
    → Receives bytes w from old mid
received_none bytes w from early old mid none h =
    let ne : w ≢ verdict.Ahead =
    subst (λ o. MatchOption o (w ≢ verdict.Ahead)
    (λ string. (string ≡ bytes) × Contains (early_at mid) string × (w ≡ verdict.Ahead))) none
    h.early in
    record {
      mid = mid;
      first = h.first;
      from = h.from;
      holds = nothing_held w h.first.frame bytes mid ne;
    }

pub told_early : (bytes string : List ℕ) (w : Verdict) (from : ℕ) (early : Option (List ℕ))
    (old mid : SiteView) → early ≡ Some string → Hears bytes w from early old mid
    → (string ≡ bytes) × Contains (early_at mid) string × (w ≡ verdict.Ahead)
told_early bytes string w from early old mid some h =
    subst (λ o. MatchOption o (w ≢ verdict.Ahead)
    (λ s. (s ≡ bytes) × Contains (early_at mid) s × (w ≡ verdict.Ahead))) some h.early

pub received_early : (bytes string : List ℕ) (w : Verdict) (from : ℕ) (early : Option (List ℕ))
    (old mid : SiteView) → early ≡ Some string → Hears bytes w from early old mid
    → Contains (early_at mid) string
received_early bytes string w from early old mid some h =
    (told_early bytes string w from early old mid some h).1

held_as : (w : Verdict) (f : Frame) (bytes : List ℕ) (mid new : SiteView) → w ≡ verdict.Ahead
    → new ≡ holding_in mid f bytes → Holds w f bytes mid new
held_as w f bytes mid new ahead is = subst (λ x. Holds x f bytes mid new) (sym ahead) is

pub received_some : (bytes string : List ℕ) (w : Verdict) (from : ℕ) (early : Option (List ℕ))
    (old mid new : SiteView) → early ≡ Some string → Hears bytes w from early old mid
    → mid.config ≡ old.config → HoldsString string mid new → Receives bytes w from old new
received_some bytes string w from early old mid new some h config held =
    let told = told_early bytes string w from early old mid some h in
    let there : Spells mid.config h.first.frame string =
    subst (λ k. Spells k h.first.frame string) (sym config)
    (subst (Spells old.config h.first.frame) (sym told.0) h.first.spelled) in
    record {
      mid = mid;
      first = h.first;
      from = h.from;
      holds = held_as w h.first.frame bytes mid new told.2
          (held h.first.frame there ∙ ap (holding_in mid h.first.frame) told.0);
    }

-- a string that was held
next_of : (s : SiteView) (from : ℕ) (bytes : List ℕ) (h : IsHeld s from 0 bytes)
    → IsNextOf s from h.frame
next_of s from bytes h =
    record { source = h.source; dest = h.dest; number = let n = h.number in omega (arith, n) }

offered-next : (s : SiteView) (from : ℕ) (f : Frame) → IsNextOf s from f
    → offered s.node.link f ≡ verdict.Next
offered-next s from f n =
    let number : f.number ≡ (peer_at s.node.link f.source).delivered + 1 =
    n.number ∙ ap (λ i. (peer_at s.node.link i).delivered + 1) (sym n.source) in
    rw (
      eq-eqb f.dest s.node.link.me n.dest,
      eq-eqb f.number ((peer_at s.node.link f.source).delivered + 1) number,
    ) refl

pub went_once : (old new : SiteView) (from source : ℕ) (bytes : List ℕ) (w : Verdict)
    → IsConfig old.config → Some bytes ≡ ready_of (holding_at old) from → IsHeld old from 0 bytes
    → Receives bytes w source (without_ready old from) new → GoesOnOnce from bytes old new
went_once old new from source bytes w limits ready h r =
    let one : h.frame ≡ r.first.frame =
    spelled_same old.config limits h.frame r.first.frame bytes h.spelled r.first.spelled in
    let next : w ≡ verdict.Next =
    r.first.is
    ∙ (ap (offered old.node.link) (sym one)
    ∙ offered-next old from h.frame (next_of old from bytes h)) in
    let same : new ≡ r.mid = subst (λ x. Holds x r.first.frame bytes r.mid new) next r.holds in
    let d : SiteDelivers bytes verdict.Next (without_ready old from) new =
    subst (λ x. SiteDelivers bytes verdict.Next (without_ready old from) x) (sym same) (record {
      frame = r.first.frame;
      spelled = r.first.spelled;
      is = sym next ∙ r.first.is;
      effect = r.first.effect;
      delivered = r.first.delivered;
      after = r.first.after
          ∙ ap (λ x. after_delivery (without_ready old from) bytes x r.first.frame.source
          r.first.effect) next;
    }) in
    record {
      ready = sym ready;
      early = h.early;
      next = d;
      from = ap (λ (x : Frame). x.source) (sym one) ∙ h.source;
    }

-- refused, and held again
pub held_again : (old mid new : SiteView) (from : ℕ) (bytes : List ℕ)
    → Some bytes ≡ ready_of (holding_at old) from → (h : IsHeld old from 0 bytes)
    → mid ≡ without_ready old from
    → ((g : Frame) → Spells mid.config g bytes → new ≡ holding_in mid g bytes) → new ≡ old
held_again old mid new from bytes ready h is held =
    held h.frame
    (subst (λ k. Spells k h.frame bytes) (sym (ap (λ (x : SiteView). x.config) is)) h.spelled)
    ∙ (ap (λ x. holding_in x h.frame bytes) is
    ∙ put-back-same old from h.frame bytes (next_of old from bytes h) (sym ready))

-- one string more
goes_more : (from : ℕ) (more : List (List ℕ)) (a b d : SiteView) (bytes : List ℕ)
    → SiteGoesOn from more a b → GoesOnOnce from bytes b d → SiteGoesOn from (more ++ bytes ∷ []) a d
goes_more from [] a b d bytes same once =
    (d, subst (λ x. GoesOnOnce from bytes x d) same once, refl)
goes_more from (x ∷ more) a b d bytes on once =
    (on.0, on.1, goes_more from more on.0 b d bytes on.2 once)

-- so many
abbrev pub WentSoOften : ℕ → ℕ → SiteView → SiteView → Type 0
WentSoOften from count a b =
    (more : List (List ℕ)) × SiteGoesOn from more a b × (length more ≡ count)

pub went_more : (from count : ℕ) (bytes : List ℕ) (a b d : SiteView) → WentSoOften from count a b
    → GoesOnOnce from bytes b d → WentSoOften from (count + 1) a d
went_more from count bytes a b d on once = (
  on.0 ++ bytes ∷ [],
  goes_more from on.0 a b d bytes on.1 once,
  length-append on.0 (bytes ∷ []) ∙ ap (λ n. n + 1) on.2,
)

-- and no more
pub went_to_end : (from count : ℕ) (a b d : SiteView) → WentSoOften from count a b → d ≡ b
    → ready_of (holding_at d) from ≡ None → GoesAsFar from None a d
went_to_end from count a b d on same none = record {
  more = on.0;
  on = subst (SiteGoesOn from on.0 a) (sym same) on.1;
  rest = inl none;
}

pub went_all : (from : ℕ) (a b : SiteView) → WentSoOften from most_ahead a b → GoesAsFar from None a b
went_all from a b on = record { more = on.0; on = on.1; rest = inr on.2 }

pub went_to_refusal : (from count : ℕ) (a b d : SiteView) (fault : Fault) → WentSoOften from count a b
    → d ≡ b → RanOut fault → GoesAsFar from (Some fault) a d
went_to_refusal from count a b d fault on same want = record {
  more = on.0;
  on = subst (SiteGoesOn from on.0 a) (sym same) on.1;
  rest = want;
}

-- a delivery
rests : (w : Verdict) (f : Frame) (bytes : List ℕ) (mid new : SiteView) → w ≢ verdict.Next
    → Holds w f bytes mid new → FollowsDelivery w f bytes mid new
rests verdict.NotMine f bytes mid new ne h = h
rests verdict.Next f bytes mid new ne h = absurd (ne refl)
rests verdict.Repeat f bytes mid new ne h = h
rests verdict.Ahead f bytes mid new ne h = h

pub after_rest : (bytes : List ℕ) (w : Verdict) (from : ℕ) (old new : SiteView) → w ≢ verdict.Next
    → Receives bytes w from old new → AfterDelivery bytes w old new
after_rest bytes w from old new ne r =
    record {
      mid = r.mid;
      first = r.first;
      follows = rests w r.first.frame bytes r.mid new ne r.holds;
    }

after_next : (bytes : List ℕ) (from : ℕ) (refused : Option Fault) (old mid new : SiteView)
    → Receives bytes verdict.Next from old mid → GoesAsFar from refused mid new
    → DeliversWhole verdict.Next refused bytes old new
after_next bytes from refused old mid new r far =
    let went : GoesAsFar r.first.frame.source refused r.mid new =
    subst (λ i. GoesAsFar i refused r.mid new) (sym r.from)
    (subst (λ x. GoesAsFar from refused x new) r.holds far) in (
      record { mid = r.mid; first = r.first; follows = (went.more, went.on) },
      went.rest,
    )

pub whole_next : (bytes : List ℕ) (w : Verdict) (from : ℕ) (refused : Option Fault)
    (old mid new : SiteView) → w ≡ verdict.Next → Receives bytes w from old mid
    → GoesAsFar from refused mid new → DeliversWhole w refused bytes old new
whole_next bytes w from refused old mid new next r far =
    subst (λ x. DeliversWhole x refused bytes old new) (sym next)
    (after_next bytes from refused old mid new
    (subst (λ x. Receives bytes x from old mid) next r) far)

pub whole_rest : (bytes : List ℕ) (w : Verdict) (from : ℕ) (old new : SiteView) → w ≢ verdict.Next
    → Receives bytes w from old new → DeliversWhole w None bytes old new
whole_rest bytes verdict.Next from old new ne r = absurd (ne refl)
whole_rest bytes verdict.NotMine from old new ne r =
    (after_rest bytes verdict.NotMine from old new ne r, refl)
whole_rest bytes verdict.Repeat from old new ne r =
    (after_rest bytes verdict.Repeat from old new ne r, refl)
whole_rest bytes verdict.Ahead from old new ne r =
    (after_rest bytes verdict.Ahead from old new ne r, refl)

-- so it is delivered
pub whole_delivers : (bytes : List ℕ) (w : Verdict) (refused : Option Fault) (old new : SiteView)
    → DeliversWhole w refused bytes old new → AfterDelivery bytes w old new
whole_delivers bytes verdict.Next refused old new d = d.0
whole_delivers bytes verdict.NotMine refused old new d = d.0
whole_delivers bytes verdict.Repeat refused old new d = d.0
whole_delivers bytes verdict.Ahead refused old new d = d.0
