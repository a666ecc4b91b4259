use Rattle.std.proofs.Common.{◌≡◌, ◌+◌, ◌-◌, ◌≤◌, ℕ, Bool, true, arith, List, [], ◌∷◌, ◌++◌, Some, None, refl, sym, ap, ◌∙◌}
use Rattle.std.specs.Prelude.{◌==◌, ◌&&◌, nat_le, if◌then◌else◌}
use Rattle.std.specs.Option.{option_or}
use Rattle.std.proofs.lemmas.Bool.Decides.{nat_tests}
use Rattle.ivy_charts.specs.declared.receivers.Held.{Held}
use Rattle.ivy_charts.specs.Heard.{kept, delivered_of}
use Rattle.ivy_charts.proofs.Noting.{kept_more}
use Rattle.ivy_charts.proofs.receivers.Receivers.hold.Goals as goal

near_enough : (number delivered : ℕ) → number - delivered ≤ 32
    → nat_le number (delivered + 32) ≡ true
near_enough number delivered few = grind (arith, nat_tests)

pub returns-in_ok-push-clause-done : goal.returns-in_ok-push-clause-done
returns-in_ok-push-clause-done c =
    let h = c.args.head.now in
    let new : Held =
    record { to = c.args.to; source = h.source; number = h.number; place = c.args.place } in
    let near : nat_le h.number (delivered_of c.args.self.now c.args.to h.source + 32) ≡ true =
    near_enough h.number (delivered_of c.args.self.now c.args.to h.source)
    (omega (arith, c.delivered-count.ensures, c.saturating_sub.ensures, c.if-is_near.true)) in
    let pushed : c.push.new.self.items ≡ c.args.self.now.held.items ++ new ∷ [] =
    c.in_ok-push.ensures.items in
    record {
      delivered = λ t s. refl;
      held = λ t s number. ap (λ (l : List Held). kept l t s number) pushed
          ∙ kept_more c.args.self.now.held.items new t s number
          ∙ ap
          (λ (b : Bool). option_or (kept c.args.self.now.held.items t s number)
          (if b && ((c.args.to == t && h.source == s) && h.number == number)
          then Some c.args.place else None))
          (sym near);
    }
