use Rattle.std.proofs.Common.{rules}
use Rattle.ivy_wire.specs.Lent.{owned_message}
use Rattle.ivy_wire.specs.Posts.{HasRefused}
use Rattle.ivy_memory.proofs.keeping.Beginning.{few_answers, side_memory, err_posts, left_memory}
use Rattle.ivy_memory.proofs.keeping.Same.{handled_size}
use Rattle.ivy_memory.proofs.memory.Memory.handle.Goals as goal

pub returns-in_err-handle-clause-few : goal.returns-in_err-handle-clause-few
returns-in_err-handle-clause-few g c =
    few_answers g.met.M.Manager.laws _ _ c.me.result c.args.from (owned_message c.args.message)
    (record {
      same = c.self.view_is;
      sound = c.self.invariant.0;
      me = c.me.ensures;
      below = c.requires.from;
      foreign = c.requires.foreign;
      fits = c.requires.fits;
    })

pub returns-in_err-handle-clause-fault : goal.returns-in_err-handle-clause-fault
returns-in_err-handle-clause-fault g c =
    err_posts g.met.M.Manager.laws _ _ c.me.result c.args.from (owned_message c.args.message)
    (record {
      same = c.self.view_is;
      sound = c.self.invariant.0;
      me = c.me.ensures;
      below = c.requires.from;
      foreign = c.requires.foreign;
      fits = c.requires.fits;
    })
    c.from_residual.result _
    (HasRefused g.P.Post.ops c.args.post.now c.handle.new.post) _
    (λ f refused. g.met.P.Post.laws.refuses_none c.args.post.now f refused.0)
    c.from_residual.ensures.1 c.in_err-handle.ensures.fault

pub invariant_of-self-then-branch : goal.invariant_of-self-then-branch
invariant_of-self-then-branch g c = (
  side_memory g.met.M.Manager.laws _ _ c.me.result c.args.from (owned_message c.args.message)
      (record {
        same = c.self.view_is;
        sound = c.self.invariant.0;
        me = c.me.ensures;
        below = c.requires.from;
        foreign = c.requires.foreign;
        fits = c.requires.fits;
      })
      c.in_ok-handle.field-0 c.handle.new.self c.in_ok-handle.ensures.fits (search rules)
      c.in_ok-handle.ensures.ok,
  c.self.invariant.1,
)

pub returns-then-branch-clause-few : goal.returns-then-branch-clause-few
returns-then-branch-clause-few g c =
    few_answers g.met.M.Manager.laws _ _ c.me.result c.args.from (owned_message c.args.message)
    (record {
      same = c.self.view_is;
      sound = c.self.invariant.0;
      me = c.me.ensures;
      below = c.requires.from;
      foreign = c.requires.foreign;
      fits = c.requires.fits;
    })

pub invariant_of-self-2 : goal.invariant_of-self-2
invariant_of-self-2 g c = (
  left_memory g.met.M.Manager.laws _ _ c.me.result c.args.from (owned_message c.args.message)
      (record {
        same = c.self.view_is;
        sound = c.self.invariant.0;
        me = c.me.ensures;
        below = c.requires.from;
        foreign = c.requires.foreign;
        fits = c.requires.fits;
      })
      c.in_ok-handle.field-0 c.handle-2.result c.handle-2.new.self c.handle.new.self
      c.in_ok-handle.ensures.fits (search rules) (c.in_ok-handle.ensures.misfit (search rules)).0
      c.handle-2.ensures.ok c.handle-2.ensures.err,
  handled_size g.M.Manager.ops c.self.inside.coherence c.args.from (owned_message c.args.message)
      c.handle-2.result c.handle-2.new.self _ c.self.invariant.1 c.handle-2.ensures.ok
      c.handle-2.ensures.err,
)
