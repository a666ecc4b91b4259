-- What a site does with the strings that wait at it, it does with any others there, and whatever
-- lists of its past it keeps.
use Rattle.std.proofs.Common.{◌≡◌, ℕ, List, [], ◌∷◌, ◌++◌, append-nil, append_assoc, refl, sym, ap, subst, ◌∙◌}
use Rattle.ivy_wire.specs.stated.Data.{Frame}
use Rattle.ivy_moves.specs.stated.Nodes.{pulsing}
use Rattle.ivy_link.specs.declared.Verdict.{Verdict}
use Rattle.ivy_link.specs.declared.Verdict.TheVariants as verdict
use Rattle.ivy_moves.specs.declared.keep.Keep.TheVariants.{History}
use Rattle.ivy_site.specs.SiteView.{SiteView, after_pulse_to}
use Rattle.ivy_site.specs.Sites.{SiteTurns, SiteDelivers, GoesOnOnce, SiteGoesOn, FollowsDelivery, AfterDelivery, holding_in}

-- the site with these strings
abbrev pub with_strings : List (List ℕ) → SiteView → SiteView
with_strings waiting s = record s { waiting = waiting; keep = History }

-- whatever strings wait at the site, so it is, with the same strings more
pub record Carries (Relates : SiteView → SiteView → Type 0) (old new : SiteView) : Type 0 where
  pub more : List (List ℕ)
  pub waiting : new.waiting ≡ old.waiting ++ more
  pub goes : (ws : List (List ℕ)) → Relates (with_strings ws old) (with_strings (ws ++ more) new)

pub kept : (old new : SiteView) → new ≡ old → (ws : List (List ℕ))
    → with_strings (ws ++ []) new ≡ with_strings ws old
kept old new same ws = λ k. with_strings (append-nil ws k) (same k)

pub none_more : (old new : SiteView) → new ≡ old → new.waiting ≡ old.waiting ++ []
none_more old new same = ap (λ (s : SiteView). s.waiting) same ∙ sym (append-nil old.waiting)

pub turn_carries : (old new : SiteView) → SiteTurns old new → Carries SiteTurns old new
turn_carries old new t = record {
  more = t.effect.sent;
  waiting = ap (λ (s : SiteView). s.waiting) t.after;
  goes = λ ws. record {
    outcome = t.outcome;
    turn = t.turn;
    effect = t.effect;
    sent = t.sent;
    after = ap (with_strings (ws ++ t.effect.sent)) t.after;
  };
}

-- what is sent by a delivery of this verdict
abbrev sent_as : Verdict → List (List ℕ) → List (List ℕ)
sent_as verdict.NotMine sent = []
sent_as verdict.Next sent = sent
sent_as verdict.Repeat sent = sent
sent_as verdict.Ahead sent = sent

delivers : (bytes : List ℕ) (v : Verdict) (old new : SiteView) → SiteDelivers bytes v old new
    → Carries (SiteDelivers bytes v) old new
delivers bytes verdict.NotMine old new d = record {
  more = [];
  waiting = none_more old new d.after;
  goes = λ ws. record {
    frame = d.frame;
    spelled = d.spelled;
    is = d.is;
    effect = d.effect;
    delivered = d.delivered;
    after = kept old new d.after ws;
  };
}
delivers bytes verdict.Next old new d = record {
  more = d.effect.sent;
  waiting = ap (λ (s : SiteView). s.waiting) d.after;
  goes = λ ws. record {
    frame = d.frame;
    spelled = d.spelled;
    is = d.is;
    effect = d.effect;
    delivered = d.delivered;
    after = ap (with_strings (ws ++ d.effect.sent)) d.after;
  };
}
delivers bytes verdict.Repeat old new d = record {
  more = d.effect.sent;
  waiting = ap (λ (s : SiteView). s.waiting) d.after;
  goes = λ ws. record {
    frame = d.frame;
    spelled = d.spelled;
    is = d.is;
    effect = d.effect;
    delivered = d.delivered;
    after = ap (with_strings (ws ++ d.effect.sent)) d.after;
  };
}
delivers bytes verdict.Ahead old new d = record {
  more = d.effect.sent;
  waiting = ap (λ (s : SiteView). s.waiting) d.after;
  goes = λ ws. record {
    frame = d.frame;
    spelled = d.spelled;
    is = d.is;
    effect = d.effect;
    delivered = d.delivered;
    after = ap (with_strings (ws ++ d.effect.sent)) d.after;
  };
}

once : (source : ℕ) (bytes : List ℕ) (old new : SiteView) → GoesOnOnce source bytes old new
    → Carries (GoesOnOnce source bytes) old new
once source bytes old new g =
    let d = g.next in let sent = d.effect.sent in record {
      more = sent;
      waiting = ap (λ (s : SiteView). s.waiting) d.after;
      goes = λ ws. record {
        ready = g.ready;
        early = g.early;
        next = record {
          frame = d.frame;
          spelled = d.spelled;
          is = d.is;
          effect = d.effect;
          delivered = d.delivered;
          after = ap (with_strings (ws ++ sent)) d.after;
        };
        from = g.from;
      };
    }

-- one after another
follow : (old mid new : SiteView) (first rest : List (List ℕ)) → mid.waiting ≡ old.waiting ++ first
    → new.waiting ≡ mid.waiting ++ rest → new.waiting ≡ old.waiting ++ (first ++ rest)
follow old mid new first rest one two =
    two ∙ ap (λ l. l ++ rest) one ∙ append_assoc old.waiting first rest

pub goes_carries : (source : ℕ) (more : List (List ℕ)) (old new : SiteView) → SiteGoesOn source more old new
    → Carries (SiteGoesOn source more) old new
goes_carries source [] old new same =
    record { more = []; waiting = none_more old new same; goes = kept old new same }
goes_carries source (bytes ∷ more) old new g =
    let one = once source bytes old g.0 g.1 in let rest = goes_carries source more g.0 new g.2 in record {
      more = one.more ++ rest.more;
      waiting = follow old g.0 new one.more rest.more one.waiting rest.waiting;
      goes = λ ws. (
        with_strings (ws ++ one.more) g.0,
        one.goes ws,
        subst (λ l. SiteGoesOn source more (with_strings (ws ++ one.more) g.0) (with_strings l new))
            (append_assoc ws one.more rest.more) (rest.goes (ws ++ one.more)),
      );
    }

held : (old new : SiteView) (f : Frame) (bytes : List ℕ) → new ≡ holding_in old f bytes
    → Carries (λ a b. b ≡ holding_in a f bytes) old new
held old new f bytes same = record {
  more = [];
  waiting = ap (λ (s : SiteView). s.waiting) same ∙ sym (append-nil old.waiting);
  goes = λ ws. λ k. with_strings (append-nil ws k) (same k);
}

follows : (v : Verdict) (f : Frame) (bytes : List ℕ) (mid new : SiteView)
    → FollowsDelivery v f bytes mid new → Carries (FollowsDelivery v f bytes) mid new
follows verdict.NotMine f bytes mid new same =
    record { more = []; waiting = none_more mid new same; goes = kept mid new same }
follows verdict.Repeat f bytes mid new same =
    record { more = []; waiting = none_more mid new same; goes = kept mid new same }
follows verdict.Ahead f bytes mid new same =
    let h = held mid new f bytes same in
    record { more = h.more; waiting = h.waiting; goes = h.goes }
follows verdict.Next f bytes mid new went =
    let c = goes_carries f.source went.0 mid new went.1 in
    record { more = c.more; waiting = c.waiting; goes = λ ws. (went.0, c.goes ws) }

-- the frame that a delivery is of is the same whatever strings wait
frame_same : (bytes : List ℕ) (v : Verdict) (old new : SiteView) (d : SiteDelivers bytes v old new)
    (ws : List (List ℕ)) → ((delivers bytes v old new d).goes ws).frame ≡ d.frame
unfolding delivers
frame_same bytes verdict.NotMine old new d ws = refl
frame_same bytes verdict.Next old new d ws = refl
frame_same bytes verdict.Repeat old new d ws = refl
frame_same bytes verdict.Ahead old new d ws = refl

pub delivery_carries : (bytes : List ℕ) (v : Verdict) (old new : SiteView) → AfterDelivery bytes v old new
    → Carries (AfterDelivery bytes v) old new
delivery_carries bytes v old new d =
    let first = delivers bytes v old d.mid d.first in
    let rest = follows v d.first.frame bytes d.mid new d.follows in record {
      more = first.more ++ rest.more;
      waiting = follow old d.mid new first.more rest.more first.waiting rest.waiting;
      goes = λ ws. record {
        mid = with_strings (ws ++ first.more) d.mid;
        first = first.goes ws;
        follows = subst (λ (f : Frame). FollowsDelivery v f bytes (with_strings (ws ++ first.more) d.mid)
            (with_strings (ws ++ (first.more ++ rest.more)) new)) (sym (frame_same bytes v old d.mid d.first ws))
            (subst (λ l. FollowsDelivery v d.first.frame bytes (with_strings (ws ++ first.more) d.mid)
            (with_strings l new)) (append_assoc ws first.more rest.more) (rest.goes (ws ++ first.more)));
      };
    }

pub pulse_carries : (to : ℕ) (old new : SiteView) → new ≡ after_pulse_to old to (pulsing old.node to)
    → Carries (λ a b. b ≡ after_pulse_to a to (pulsing a.node to)) old new
pulse_carries to old new same = record {
  more = (pulsing old.node to).sent;
  waiting = ap (λ (s : SiteView). s.waiting) same;
  goes = λ ws. ap (with_strings (ws ++ (pulsing old.node to).sent)) same;
}
