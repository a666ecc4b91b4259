use Rattle.std.proofs.Common.{◌≡◌, true, false, None, List, sym, ap, ◌∙◌, subst}
use Rattle.ivy_wire.specs.stated.Data.{Parcel}
use Rattle.ivy_pagetable.specs.Lent.{lent_entry}
use Rattle.ivy_pagetable.specs.stated.Accesses.{suffices}
use Rattle.ivy_coherence.proofs.keeping.Opened.{asks, hit_posts, hit_sound}
use Rattle.ivy_coherence.proofs.coherence.Coherence.begin.Goals as goal

pub invariant_of-self-then-suffices : goal.invariant_of-self-then-suffices
invariant_of-self-then-suffices g c = (
  hit_sound g.met.M.Manager.laws _ _ c.self.view_is c.self.invariant.0 c.args.page c.args.word _
      c.requires.page c.requires.word c.in_ok-carry_out-in-Idle.ensures.bytes,
  c.self.invariant.1,
  c.self.invariant.2,
)

pub returns-then-suffices-clause-posted : goal.returns-then-suffices-clause-posted
returns-then-suffices-clause-posted g c =
    let enough : suffices c.in-Idle.idle.now.access c.args.word ≡ true =
    rw c.access.ensures.access at (sym c.suffices.ensures ∙ c.if-suffices.true) in
    let free : c.self.inside.locked ≡ None =
    ap (λ x. x.locked) c.self.view_is ∙ c.requires.free in
    sym (g.met.P.Post.laws.after_none c.args.post.now)
    ∙ ap (g.P.Post.ops.after c.args.post.now)
    (hit_posts g.met.M.Manager.laws _ _ c.self.view_is c.self.invariant.0 c.args.page c.args.word
    c.args.call c.in-Idle.idle.now free (sym c.entry.ensures ∙ ap lent_entry c.in-Idle.is) enough)

pub returns-then-suffices-clause-took : goal.returns-then-suffices-clause-took
returns-then-suffices-clause-took g c =
    let enough : suffices c.in-Idle.idle.now.access c.args.word ≡ true =
    rw c.access.ensures.access at (sym c.suffices.ensures ∙ c.if-suffices.true) in
    let free : c.self.inside.locked ≡ None =
    ap (λ x. x.locked) c.self.view_is ∙ c.requires.free in
    subst (λ (ps : List Parcel). g.P.Post.ops.takes c.args.post.now ps)
    (hit_posts g.met.M.Manager.laws _ _ c.self.view_is c.self.invariant.0 c.args.page c.args.word
    c.args.call c.in-Idle.idle.now free (sym c.entry.ensures ∙ ap lent_entry c.in-Idle.is) enough)
    (g.met.P.Post.laws.takes_none c.args.post.now)

pub returns-in_err-start-in-Idle-clause-sure : goal.returns-in_err-start-in-Idle-clause-sure
returns-in_err-start-in-Idle-clause-sure g c =
    let short : suffices c.in-Idle.idle.now.access c.args.word ≡ false =
    rw c.access.ensures.access at (sym c.suffices.ensures ∙ c.if-suffices.false) in
    let free : c.self.inside.locked ≡ None =
    ap (λ x. x.locked) c.self.view_is ∙ c.requires.free in
    asks _ _ c.self.view_is c.args.page c.args.word c.in-Idle.idle.now
    c.from_residual-in_err-start-in-Idle.result free
    (sym c.entry.ensures ∙ ap lent_entry c.in-Idle.is) short
