use Rattle.std.proofs.Common.{◌≡◌, ℕ, ◌-◌, [], ◌∷◌, ◌++◌, inl, inr, ap, sym, ◌∙◌, refl}
use Rattle.ivy_calls.specs.declared.answer.Answer.{Answer}
use Rattle.ivy_sync.specs.Doing.{loads, stores}
use Rattle.example_programs.specs.declared.peterson.Peterson.{Peterson}
use Rattle.example_programs.specs.Peterson.{wish_of, IsTry, LetsIn}
use Rattle.example_programs.proofs.Trying.{begins, tries_on, tries_wish, is_let_in}
use Rattle.example_programs.proofs.peterson.Peterson.enter.Goals as goal

pub loop-init : goal.loop-init
loop-init g c =
    begins c.args.self.now c.args.me _ _ _
    (c.in_ok-store.ensures.asks
    ∙ ap (λ (a : ℕ). g.M.SharedMemory.answers c.args.memory.now ++ stores a 1 ∷ [])
    c.wish.ensures)
    (c.in_ok-store-2.ensures.asks
    ∙ ap (λ (n : ℕ). g.M.SharedMemory.answers c.store.new.memory
    ++ stores c.args.self.now.turn n ∷ []) c.from.ensures)

pub returns-then-branch-eq0 : goal.returns-then-branch-eq0
returns-then-branch-eq0 g c =
    let lock : Peterson = c.args.self.now in
    let me : ℕ = c.args.me in
    let r : Answer = loads c.wish-in-loop.result c.in_ok-load.field-0 in
    let other : r ≡ loads (wish_of lock (1 - me)) c.in_ok-load.field-0 =
    ap (λ (a : ℕ). loads a c.in_ok-load.field-0) c.wish-in-loop.ensures in
    let none : loads (wish_of lock (1 - me)) c.in_ok-load.field-0 ≡ loads (wish_of lock (1 - me)) 0 =
    ap (loads (wish_of lock (1 - me))) c.if-branch-eq0.true in
    let lets_in : LetsIn lock me r = inl (other ∙ none) in
    is_let_in lock me r _ _ _ c.loop.invariant lets_in c.in_ok-load.ensures.asks

pub returns-then-branch-from : goal.returns-then-branch-from
returns-then-branch-from g c =
    let lock : Peterson = c.args.self.now in
    let me : ℕ = c.args.me in
    let own : loads lock.turn c.in_ok-load-2.field-0 ≡ loads lock.turn me =
    ap (loads lock.turn) (c.if-branch-from.true ∙ c.from-in-loop.ensures) in
    let lets_in : LetsIn lock me (loads lock.turn c.in_ok-load-2.field-0) = inr own in
    is_let_in lock me (loads lock.turn c.in_ok-load-2.field-0) _ _ _
    (tries_wish lock me c.wish-in-loop.result c.in_ok-load.field-0 _ _ _ c.loop.invariant
    c.wish-in-loop.ensures c.if-branch-eq0.false c.in_ok-load.ensures.asks) lets_in
    c.in_ok-load-2.ensures.asks

pub loop-preserved : goal.loop-preserved
loop-preserved g c =
    let lock : Peterson = c.args.self.now in
    let me : ℕ = c.args.me in
    let again : IsTry lock me (loads lock.turn c.in_ok-load-2.field-0) =
    inr (
      c.in_ok-load-2.field-0,
      (λ e. c.if-branch-from.false (e ∙ sym c.from-in-loop.ensures)),
      refl,
    ) in
    tries_on lock me (loads lock.turn c.in_ok-load-2.field-0) _ _ _
    (tries_wish lock me c.wish-in-loop.result c.in_ok-load.field-0 _ _ _ c.loop.invariant
    c.wish-in-loop.ensures c.if-branch-eq0.false c.in_ok-load.ensures.asks) again
    c.in_ok-load-2.ensures.asks
