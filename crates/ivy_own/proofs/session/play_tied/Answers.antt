use Rattle.std.proofs.Common.{rules, arith, ◌≡◌, vec_len, ap, subst, ◌∙◌}
use Rattle.std.specs.Prelude.{IfErr}
use Rattle.ivy_model.specs.declared.Config.{Config}
use Rattle.ivy_own.specs.Faults.{IsOwnStop}
use Rattle.ivy_own.proofs.session.play_tied.Goals as goal

pub run_workers-requires-clause-few : goal.run_workers-requires-clause-few
run_workers-requires-clause-few g c =
    let many = c.in_ok-seats.ensures.mines in
    let most = c.requires.limits.nodes_to in omega (arith, many, most)

pub returns-in_err-all-clause-fault : goal.returns-in_err-all-clause-fault
returns-in_err-all-clause-fault g c =
    let many : vec_len c.in_ok-seats.field-0.mines ≡ g.S.Setup.config.nodes =
    c.in_ok-seats.ensures.mines ∙ ap (λ (k : Config). k.nodes) c.requires.config in
    subst
    (λ n. IfErr c.from_residual-in_err-all.result
    (IsOwnStop n (g.W.Work.gives_up c.args.work.now)))
    many (search rules)

pub collect-requires-clause-nodes : goal.collect-requires-clause-nodes
collect-requires-clause-nodes g c = λ lifetimes outlives.
    c.in_ok-all.ensures.all
    ∙ (c.in_ok-seats.ensures.mines ∙ ap (λ (k : Config). k.nodes) c.requires.config)
