-- What a turn on the wire leaves, told by its steps.
use Rattle.std.proofs.Common.{◌≡◌, ◌≢◌, ◌==◌, nat_le, if◌then◌else◌, Bool, true, false, eq-eqb}
use Rattle.std.proofs.Common.{ℕ, ◌+◌, List, [], ◌∷◌, Contains, Option, Some, None, refl}
use Rattle.std.proofs.Common.{sym, ap, subst, ◌∙◌, inl, inr}
use Rattle.std.specs.Prelude.{IfOk, IfErr, MatchOption, MatchResult, Result, Ok, Err}
use Rattle.std.proofs.lemmas.List.Elements.{All-nil, All-cons, Contains-append_right, Contains-push}
use Rattle.atomic_table.specs.Seated.{TableId}
use Rattle.ivy_model.specs.declared.Config.{Config}
use Rattle.ivy_model.specs.stated.Config.{IsConfig}
use Rattle.ivy_model.specs.declared.Fault.{Fault}
use Rattle.ivy_model.specs.declared.Fault.TheVariants as fault
use Rattle.ivy_model.specs.Wants.{RanOut}
use Rattle.ivy_program.specs.stated.Programs.{Program}
use Rattle.ivy_wire.specs.declared.FrameKind.{FrameKind}
use Rattle.ivy_wire.proofs.Frames.{spelled_once}
use Rattle.ivy_link.specs.declared.Verdict.{Verdict}
use Rattle.ivy_link.specs.declared.Verdict.TheVariants as verdict
use Rattle.ivy_link.specs.stated.Accepted.{offered, verdict_on}
use Rattle.ivy_link.specs.stated.Linked.{peer_at}
use Rattle.ivy_moves.specs.Marks.{Mark}
use Rattle.ivy_moves.specs.stated.Nodes.{verdict_as, verdict_of}
use Rattle.ivy_host.specs.declared.opening.Opening.{Opening}
use Rattle.ivy_site.specs.SiteView.{SiteView}
use Rattle.ivy_site.specs.Sites.{SiteDelivers, AfterDelivery, IsMadeByEvents}
use Rattle.ivy_ether.specs.Data.{Item}
use Rattle.ivy_ether.specs.declared.item.Item.TheVariants as items
use Rattle.ivy_ether.specs.Held.{Held, held}
use Rattle.ivy_ether.specs.Views.{with_put, with_refused, with_taken, with_empty}
use Rattle.ivy_seating.specs.Places.{SeatedState, place, IsSeated, KeepsSeat}
use Rattle.ivy_seating.specs.Wire.{pass_after_putting, pass_after_refusing, pass_after_taking, pass_after_looking, IsForAnother, IsNoFrame, PutsFirst, LosesFirst, Rests, having_taken, ReturnsString, LosesString, DropsItem}

-- the verdict of a delivery is what the definitions say of the string
told_verdict : (bytes : List ℕ) (v : Verdict) (s mid : SiteView) → IsConfig s.config
    → SiteDelivers bytes v s mid → v ≡ verdict_of s.config s.node bytes
told_verdict bytes v s mid limits d =
    let once = spelled_once s.config d.frame bytes limits d.spelled in
    d.is ∙ sym (ap (λ r. verdict_as r s.node bytes) once.0
    ∙ ap (λ f. offered s.node.link f) once.1)

pub verdict_told : (r : Result Verdict Fault) (bytes : List ℕ) (s s' : SiteView) → IsConfig s.config
    → MatchResult r (λ v. AfterDelivery bytes v s s') (λ _. s' ≡ s)
    → IfOk r (λ v. v ≡ verdict_of s.config s.node bytes)
verdict_told (Ok v) bytes s s' limits after =
    told_verdict bytes v s after.mid limits after.first
verdict_told (Err f) bytes s s' limits same = tt

-- a string that is refused, and not for want of memory or numbers, spells no frame
pub refused_as : (r : Result FrameKind Fault) (answer : Result Verdict Fault) (f : Fault)
    → answer ≡ Err f → MatchResult r (λ _. IfErr answer RanOut) (λ g. answer ≡ Err g)
    → f ≢ fault.Memory → f ≢ fault.NumbersSpent → (g : Fault) × (r ≡ Err g)
refused_as (Ok kind) answer f is want some numbers =
    let wanted : RanOut f = subst (λ a. IfErr a RanOut) is want in
    elim wanted [ inl m ↦ absurd (some m) | inr m ↦ absurd (numbers m) ]
refused_as (Err g) answer f is same some numbers = (g, refl)

-- a frame that is not for the site's node is for another
mine_if : (a b : Bool)
    → (if a then verdict.Next else (if b then verdict.Repeat else verdict.Ahead)) ≢ verdict.NotMine
mine_if true b is = (let apart : verdict.Next ≡ verdict.NotMine = is in absurd cc)
mine_if false true is = (let apart : verdict.Repeat ≡ verdict.NotMine = is in absurd cc)
mine_if false false is = (let apart : verdict.Ahead ≡ verdict.NotMine = is in absurd cc)

mine_on : (delivered number : ℕ) → verdict_on delivered number ≢ verdict.NotMine
mine_on delivered number = mine_if (number == delivered + 1) (nat_le number delivered)

-- the site is as it was
not_mine_same : (bytes : List ℕ) (s s' : SiteView) → AfterDelivery bytes verdict.NotMine s s' → s' ≡ s
not_mine_same bytes s s' d = d.follows ∙ d.first.after

pub for_another : (bytes : List ℕ) (s s' : SiteView) → AfterDelivery bytes verdict.NotMine s s'
    → IsForAnother s bytes
for_another bytes s s' d = record {
  frame = d.first.frame;
  spelled = d.first.spelled;
  other = λ same. mine_on (peer_at s.node.link d.first.frame.source).delivered d.first.frame.number
      (sym (ap (λ b. if b then verdict_on (peer_at s.node.link d.first.frame.source).delivered
      d.first.frame.number else verdict.NotMine)
      (eq-eqb d.first.frame.dest s.node.link.me same)) ∙ sym d.first.is);
}

-- a site's own frame is put, or lost
pub put_own : (e : TableId) (s s' : SiteView) (p p' : Held) (es : List Mark) (bytes : List ℕ)
    → s.waiting ≡ bytes ∷ s'.waiting → s' ≡ record s { waiting = s'.waiting } → es ≡ s'.events
    → p'.ether ≡ p.ether → p'.known ≡ with_put p.known es (bytes ∷ [])
    → PutsFirst (place e s p) (place e s' p')
put_own e s s' p p' es bytes waited same is ether known =
    let put : p'.known ≡ with_put p.known s.events (bytes ∷ []) =
    known ∙ ap (λ l. with_put p.known l (bytes ∷ [])) (is ∙ ap (λ (x : SiteView). x.events) same) in record {
      first = record { bytes = bytes; waited = waited; same = same };
      put = λ k. held (ether k) (put k);
    }

pub lost_own : (e : TableId) (s s' : SiteView) (p p' : Held) (bytes : List ℕ)
    → s.waiting ≡ bytes ∷ s'.waiting → s' ≡ record s { waiting = s'.waiting }
    → p'.ether ≡ p.ether → p'.known ≡ with_refused p.known bytes
    → LosesFirst (place e s p) (place e s' p')
lost_own e s s' p p' bytes waited same ether known = record {
  first = record { bytes = bytes; waited = waited; same = same };
  refused = λ k. held (ether k) (known k);
}

-- another's frame is put back
pub put_other : (e : TableId) (s : SiteView) (p p' : Held) (es : List Mark) (bytes : List ℕ)
    → es ≡ s.events → p'.ether ≡ p.ether → p'.known ≡ with_put p.known es (bytes ∷ [])
    → p' ≡ pass_after_putting (place e s p) bytes
put_other e s p p' es bytes is ether known =
    let put : p'.known ≡ with_put p.known s.events (bytes ∷ []) =
    known ∙ ap (λ l. with_put p.known l (bytes ∷ [])) is in
    (λ k. held (ether k) (put k))

-- or lost
pub lost_other : (e : TableId) (s : SiteView) (p p' : Held) (bytes : List ℕ) → p'.ether ≡ p.ether
    → p'.known ≡ with_refused p.known bytes → p' ≡ pass_after_refusing (place e s p) bytes
lost_other e s p p' bytes ether known = λ k. held (ether k) (known k)

-- an item is taken
pub took_item : (r : Option Item) (e : TableId) (s : SiteView) (p p' : Held) (es : List Mark)
    → es ≡ s.events → p'.ether ≡ p.ether
    → MatchOption r (p'.known ≡ with_empty p.known) (λ x. p'.known ≡ with_taken p.known es x)
    → MatchOption r (p' ≡ pass_after_looking (place e s p))
    (λ x. p' ≡ pass_after_taking (place e s p) x)
took_item None e s p p' es is ether known = λ k. held (ether k) (known k)
took_item (Some x) e s p p' es is ether known =
    let took : p'.known ≡ with_taken p.known s.events x =
    known ∙ ap (λ l. with_taken p.known l x) is in
    λ k. held (ether k) (took k)

-- a string was taken, before which nothing waited
pub record HasTaken (bytes : List ℕ) (old now : SeatedState) : Type 0 where
  pub rests : Rests old now
  pub ether : now.ether ≡ old.ether
  pub pass : now.pass ≡ pass_after_taking old (items.Frame bytes)

pub has_taken : (item : Item) (bytes : List ℕ) (old first now : SeatedState)
    → item ≡ items.Frame bytes → (first ≡ old) × (old.site.waiting ≡ []) → now.ether ≡ first.ether
    → now.site ≡ first.site → now.pass ≡ pass_after_taking first item → HasTaken bytes old now
has_taken item bytes old first now is none ether site pass = record {
  rests = (none.1, site ∙ ap (λ (s : SeatedState). s.site) none.0);
  ether = ether ∙ ap (λ (s : SeatedState). s.ether) none.0;
  pass = pass ∙ ap (λ (s : SeatedState). pass_after_taking s item) none.0
      ∙ ap (pass_after_taking old) is;
}

pub took_string : (bytes : List ℕ) (old now : SeatedState) → HasTaken bytes old now
    → Contains now.pass.known.took bytes
took_string bytes old now h =
    subst (λ (p : Held). Contains p.known.took bytes) (sym h.pass)
    (Contains-append_right old.pass.known.took (bytes ∷ []) bytes (Contains-push [] bytes))

-- so the seat is as it is once a string was taken
now_taken : (bytes : List ℕ) (old now : SeatedState) → HasTaken bytes old now
    → now ≡ having_taken old bytes
now_taken bytes old now h = λ k. place (h.ether k) (h.rests.1 k) (h.pass k)

-- and lost, where it is no frame
pub drops_string : (bytes : List ℕ) (old now new : SeatedState) → HasTaken bytes old now
    → IsNoFrame now.site bytes → new ≡ now → DropsItem old new
drops_string bytes old now new h none same = record {
  rests = (h.rests.0, ap (λ (s : SeatedState). s.site) same ∙ h.rests.1);
  item = items.Frame bytes;
  none = All-cons (IsNoFrame old.site) bytes []
      (subst (λ (s : SiteView). IsNoFrame s bytes) h.rests.1 none)
      (All-nil (IsNoFrame old.site));
  took = ap (λ (s : SeatedState). s.pass) same ∙ h.pass;
}

-- it was looked at, and is for another node: the seat is as it was
looked_at : (bytes : List ℕ) (old now mid : SeatedState) → HasTaken bytes old now
    → AfterDelivery bytes verdict.NotMine now.site mid.site → mid.ether ≡ now.ether
    → mid.pass ≡ now.pass → mid ≡ having_taken old bytes
looked_at bytes old now mid h d ether pass =
    (λ k. place (ether k) (not_mine_same bytes now.site mid.site d k) (pass k))
    ∙ now_taken bytes old now h

-- the frame of another node is put back
pub returns_string : (bytes : List ℕ) (old now mid new : SeatedState) → HasTaken bytes old now
    → AfterDelivery bytes verdict.NotMine now.site mid.site → mid.ether ≡ now.ether
    → mid.pass ≡ now.pass → new.site ≡ mid.site → new.pass ≡ pass_after_putting mid bytes
    → (r : ReturnsString old new) × (r.bytes ≡ bytes)
returns_string bytes old now mid new h d ether pass site put =
    let same = looked_at bytes old now mid h d ether pass in (
      record {
        rests = (h.rests.0, site ∙ ap (λ (s : SeatedState). s.site) same);
        bytes = bytes;
        other = subst (λ (s : SiteView). IsForAnother s bytes) h.rests.1
            (for_another bytes now.site mid.site d);
        put = put ∙ ap (λ s. pass_after_putting s bytes) same;
      },
      refl,
    )

-- or the ether is full for it
pub loses_string : (bytes : List ℕ) (old now mid new : SeatedState) → HasTaken bytes old now
    → AfterDelivery bytes verdict.NotMine now.site mid.site → mid.ether ≡ now.ether
    → mid.pass ≡ now.pass → new.site ≡ mid.site → new.pass ≡ pass_after_refusing mid bytes
    → (r : LosesString old new) × (r.bytes ≡ bytes)
loses_string bytes old now mid new h d ether pass site refused =
    let same = looked_at bytes old now mid h d ether pass in (
      record {
        rests = (h.rests.0, site ∙ ap (λ (s : SeatedState). s.site) same);
        bytes = bytes;
        other = subst (λ (s : SiteView). IsForAnother s bytes) h.rests.1
            (for_another bytes now.site mid.site d);
        refused = refused ∙ ap (λ s. pass_after_refusing s bytes) same;
      },
      refl,
    )

-- what holds of a seated site
pub keeps_seat : (wire : TableId) (c : Config) (opened : Opening) (programs : List Program)
    (s : SiteView) (p : Held) → IsSeated wire c opened programs s p → IsMadeByEvents s
    → KeepsSeat c opened programs (place wire s p)
keeps_seat wire c opened programs s p h made = record { seated = h; made = made }
