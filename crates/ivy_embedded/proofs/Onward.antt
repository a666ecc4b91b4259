-- Strings that a node held, and went on with up to one that would take what is lent.
use Rattle.std.proofs.Common.{◌≡◌, ◌≢◌, inl, inr, ℕ, ◌+◌, List, [], None, refl, sym, ◌∙◌, subst}
use Rattle.std.specs.Prelude.{Result, Ok, Err}
use Rattle.ivy_link.specs.declared.Verdict.{Verdict}
use Rattle.ivy_link.specs.declared.Verdict.TheVariants as verdict
use Rattle.ivy_link.specs.Holding.{ready_of}
use Rattle.ivy_link.specs.stated.LinkLimits.{most_ahead}
use Rattle.ivy_site.specs.Inside.{Receives}
use Rattle.ivy_site.specs.SiteView.{SiteView, holding_at}
use Rattle.ivy_site.specs.Sites.{AfterDelivery, SiteGoesOn}
use Rattle.ivy_site.proofs.Receiving.{WentSoOften, went_more}
use Rattle.ivy_embedded.specs.declared.embedded.Declined.{Declined}
use Rattle.ivy_embedded.specs.Lends.{DeliversFar, GoesOnBy, StopsAt, WentOn}
use Rattle.ivy_embedded.specs.Nodes.{Embedded}

-- the node went on so many times
pub record HasGone (from count : ℕ) (s t : Embedded) : Type 0 where
  pub first : t.first ≡ s.first
  pub on : WentSoOften from count s.site t.site
  pub lent : t.lent ≡ s.lent

pub gone_none : (from : ℕ) (s : Embedded) → HasGone from 0 s s
gone_none from s = record { first = refl; on = ([], refl, refl); lent = refl }

pub gone_more : (from count : ℕ) (s t u : Embedded) → HasGone from count s t → GoesOnBy from t u
    → HasGone from (count + 1) s u
gone_more from count s t u gone by = record {
  first = by.1.0 ∙ gone.first;
  on = went_more from count by.0 s.site t.site u.site gone.on by.1.1;
  lent = by.1.2 ∙ gone.lent;
}

-- and no further, as none is due
pub gone_to_end : (from count : ℕ) (done : Unit {0}) (s t : Embedded) → HasGone from count s t
    → ready_of (holding_at t.site) from ≡ None → WentOn from (Ok done) s t
gone_to_end from count done s t gone none =
    record { more = gone.on.0; on = (gone.first, gone.on.1, gone.lent); ends = inl none }

-- or as many went on as are ever held
pub gone_all : (from : ℕ) (done : Unit {0}) (s t : Embedded) → HasGone from most_ahead s t
    → WentOn from (Ok done) s t
gone_all from done s t gone =
    record { more = gone.on.0; on = (gone.first, gone.on.1, gone.lent); ends = inr gone.on.2 }

-- or this refuses the next one
pub gone_to_refusal : (from count : ℕ) (why : Declined) (s t : Embedded) → HasGone from count s t
    → StopsAt why from t → WentOn from (Err why) s t
gone_to_refusal from count why s t gone stops =
    record { more = gone.on.0; on = (gone.first, gone.on.1, gone.lent); ends = stops }

-- a string that was received, and what went on after it
pub went_delivery : (bytes : List ℕ) (v : Verdict) (from : ℕ) (old mid new : SiteView)
    (more : List (List ℕ)) → v ≡ verdict.Next → Receives bytes v from old mid
    → SiteGoesOn from more mid new → AfterDelivery bytes v old new
went_delivery bytes verdict.NotMine from old mid new more next r on = absurd cc
went_delivery bytes verdict.Repeat from old mid new more next r on = absurd cc
went_delivery bytes verdict.Ahead from old mid new more next r on = absurd cc
went_delivery bytes verdict.Next from old mid new more next r on = record {
  mid = r.mid;
  first = r.first;
  follows = (
    more,
    subst (λ x. SiteGoesOn r.first.frame.source more x new) r.holds
        (subst (λ i. SiteGoesOn i more mid new) (sym r.from) on),
  );
}

-- a string that was received, after which nothing goes on
pub rests_delivery : (bytes : List ℕ) (v : Verdict) (from : ℕ) (old new : SiteView)
    → v ≢ verdict.Next → Receives bytes v from old new → AfterDelivery bytes v old new
rests_delivery bytes verdict.NotMine from old new other r =
    record { mid = r.mid; first = r.first; follows = r.holds }
rests_delivery bytes verdict.Next from old new other r = absurd (other refl)
rests_delivery bytes verdict.Repeat from old new other r =
    record { mid = r.mid; first = r.first; follows = r.holds }
rests_delivery bytes verdict.Ahead from old new other r =
    record { mid = r.mid; first = r.first; follows = r.holds }

-- the string was received, and the node went on
pub far_next : (bytes : List ℕ) (v : Verdict) (from : ℕ) (s t : Embedded) (mid : SiteView)
    (result : Result (Unit {0}) Declined) → Receives bytes v from s.site mid
    → WentOn from result (record s { site = mid }) t → v ≡ verdict.Next → DeliversFar bytes v s t
far_next bytes verdict.NotMine from s t mid result r on next = absurd cc
far_next bytes verdict.Repeat from s t mid result r on next = absurd cc
far_next bytes verdict.Ahead from s t mid result r on next = absurd cc
far_next bytes verdict.Next from s t mid result r on next = record {
  mid = r.mid;
  first = r.first;
  on = λ is. (
    result,
    subst (λ x. WentOn r.first.frame.source result (record s { site = x }) t) r.holds
        (subst (λ i. WentOn i result (record s { site = mid }) t) (sym r.from) on),
  );
}

-- or it had nothing to go on with
pub far_rests : (bytes : List ℕ) (v : Verdict) (from : ℕ) (s t : Embedded) (mid : SiteView)
    → Receives bytes v from s.site mid → v ≢ verdict.Next → DeliversFar bytes v s t
far_rests bytes v from s t mid r other =
    record { mid = r.mid; first = r.first; on = λ next. absurd (other next) }
