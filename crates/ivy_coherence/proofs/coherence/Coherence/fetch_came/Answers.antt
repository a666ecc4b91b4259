use Rattle.std.proofs.Common.{◌≡◌, ◌∙◌, List, length, ap, rules, subst}
use Rattle.ivy_wire.specs.stated.Data.{Parcel}
use Rattle.ivy_coherence.proofs.keeping.Opened.{spare_after, entries_then, unlock_fits}
use Rattle.ivy_coherence.proofs.keeping.OpenedFetches.{fetched_sound, fetched_then, fetched_posts}
use Rattle.ivy_coherence.proofs.coherence.Coherence.fetch_came.Goals as goal

pub serve_put_off-requires-clause-fits : goal.serve_put_off-requires-clause-fits
serve_put_off-requires-clause-fits g c =
    let sized : length c.bytes.result.now ≡ c.args.self.now.config.page_size =
    ap length c.bytes.ensures ∙ ap length c.in_ok-fill.ensures.ok ∙ c.requires.sized in
    unlock_fits g.met.M.Manager.laws _ _ c.self.view_is c.self.invariant.0 c.args.from c.args.page
    c.args.kind c.bytes.result.now c.args.waiting.now _ _ _ _ _
    (record {
      below = c.requires.from;
      foreign = c.requires.foreign;
      inside = c.requires.page;
      sized = sized;
    }) c.requires.waits c.unlocked_as.ensures c.reply_as.ensures
    c.put_offs.ensures.list c.requires.post.config c.requires.post.node

pub invariant_of-self-2 : goal.invariant_of-self-2
invariant_of-self-2 g c =
    let bytes_are : c.bytes.result.now ≡ c.args.bytes.now =
    c.bytes.ensures ∙ c.in_ok-fill.ensures.ok in
    let long : length c.fill.new.self ≡ c.args.self.now.config.page_size =
    ap length c.in_ok-fill.ensures.ok ∙ c.requires.sized in (
      fetched_sound g.met.M.Manager.laws _ _ c.self.view_is c.self.invariant.0 c.args.from
          c.args.page c.args.kind c.args.bytes.now c.args.waiting.now c.unlocked_as.result _ _
          c.put_offs.result.now _ _ _ _ c.requires.elsewhere
          (record {
            below = c.requires.from;
            foreign = c.requires.foreign;
            inside = c.requires.page;
            sized = c.requires.sized;
          }) c.requires.waits c.unlocked_as.ensures c.reply_as.ensures
          c.put_offs.ensures.list (rw bytes_are at c.in_ok-after.ensures.idle)
          (rw (c.set_entry.ensures, c.in_ok-fill.ensures.ok) at c.exchange.ensures.page)
          (rw bytes_are at c.in_ok-after.ensures.manager)
          (rw bytes_are at c.in_ok-after.ensures.breaches) c.leave_out.ensures,
      spare_after _ _ c.self.view_is c.self.invariant.0 c.set_entry.new.self
          c.fill.new.self c.exchange.new.spare
          (entries_then _ _ c.self.view_is c.self.invariant.0 c.set_entry.new.self c.args.page _
          c.set_entry.ensures) long c.exchange.ensures.kept,
      c.self.invariant.2,
    )

pub returns : goal.returns
returns g c =
    let bytes_are : c.bytes.result.now ≡ c.args.bytes.now =
    c.bytes.ensures ∙ c.in_ok-fill.ensures.ok in
    let posts =
    fetched_posts g.met.M.Manager.laws _ _ c.self.view_is c.self.invariant.0 c.args.from c.args.page
    c.args.kind c.args.bytes.now c.args.waiting.now c.unlocked_as.result c.reply_as.result
    c.put_offs.result.now c.unlocked_as.ensures c.reply_as.ensures
    c.put_offs.ensures.list in
    record {
      ok = fetched_then g.met.M.Manager.laws _ _ c.self.view_is c.self.invariant.0 c.args.from
          c.args.page c.args.kind c.args.bytes.now c.args.waiting.now c.unlocked_as.result _
          c.reply_as.result c.put_offs.result.now _ _ _ _ c.unlocked_as.ensures
          c.reply_as.ensures c.put_offs.ensures.list
          (rw bytes_are at c.in_ok-after.ensures.idle)
          (rw (c.set_entry.ensures, c.in_ok-fill.ensures.ok) at c.exchange.ensures.page)
          (rw bytes_are at c.in_ok-after.ensures.manager)
          (rw bytes_are at c.in_ok-after.ensures.breaches) c.leave_out.ensures;
      posted = (rw bytes_are at c.in_ok-after.ensures.posted)
          ∙ ap (g.P.Post.ops.after c.args.post.now) posts;
      took = subst (λ (ps : List Parcel). g.P.Post.ops.takes c.args.post.now ps) posts
          (rw bytes_are at c.in_ok-after.ensures.took);
      err = search rules;
      fault = search rules;
      want = search rules;
    }
