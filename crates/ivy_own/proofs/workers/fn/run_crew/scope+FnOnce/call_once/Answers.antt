use Rattle.ivy_own.proofs.workers.fn.run_crew.scope+FnOnce.call_once.Goals as goal

-- what is asked first, and then which types may cross threads
pub scope-requires : goal.scope-requires
scope-requires g c =
    let all = c.requires.1.1.1.1.1.1.1 in
    let cross = all.1.1 in
    (cross.0, (cross.1, (cross.2, (cross.3, (cross.4, (cross.5, (cross.6, (cross.7, (cross.8, (cross.9, (all.0, all.1.0)))))))))))
