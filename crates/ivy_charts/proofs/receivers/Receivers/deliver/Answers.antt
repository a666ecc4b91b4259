use Rattle.std.proofs.Common.{◌≡◌, rules, List, [], ◌∷◌, ◌++◌, ap, ◌∙◌}
use Rattle.std.specs.Prelude.{filter}
use Rattle.std.proofs.lemmas.Fn.{filter_same}
use Rattle.ivy_charts.specs.declared.receivers.Delivered.{Delivered}
use Rattle.ivy_charts.specs.declared.receivers.Held.{Held}
use Rattle.ivy_charts.specs.Heard.{noted, kept}
use Rattle.ivy_charts.proofs.Noting.{is_other, is_later, noted_anew, kept_later}
use Rattle.ivy_charts.proofs.receivers.Receivers.deliver.Goals as goal

pub returns-clause-done : goal.returns-clause-done
returns-clause-done c =
    let new : Delivered =
    record { to = c.args.to; source = c.args.source; count = c.args.count } in
    let others : c.retain-2.new.self.items
    ≡ filter (is_other c.args.to c.args.source) c.reserve.new.self.items = filter_same _
    (is_other c.args.to c.args.source) _ (λ x b f' k. search rules) _ _ c.retain-2.ensures.filtered in
    let later : c.retain.new.self.items
    ≡ filter (is_later c.args.to c.args.source c.args.count) c.args.self.now.held.items
    = filter_same _ (is_later c.args.to c.args.source c.args.count) _ (λ x b f' k. search rules) _ _ c.retain.ensures.filtered in
    let pushed : c.push_reserved.new.self.items ≡ c.retain-2.new.self.items ++ new ∷ [] =
    c.push_reserved.ensures.items in
    let all : c.push_reserved.new.self.items
    ≡ filter (is_other c.args.to c.args.source) c.args.self.now.delivered.items ++ new ∷ [] =
    pushed
    ∙ ap (λ (l : List Delivered). l ++ new ∷ [])
    (others
    ∙ ap (λ (l : List Delivered). filter (is_other c.args.to c.args.source) l)
    c.reserve.ensures.items) in
    record {
      delivered = λ t s. ap (λ (l : List Delivered). noted l t s) all
          ∙ noted_anew c.args.self.now.delivered.items new t s;
      held = λ t s number. ap (λ (l : List Held). kept l t s number) later
          ∙ kept_later c.args.self.now.held.items c.args.to c.args.source c.args.count t s number;
    }
