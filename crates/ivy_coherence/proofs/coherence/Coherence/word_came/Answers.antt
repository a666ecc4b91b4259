use Rattle.std.proofs.Common.{◌≡◌, ℕ, List, [], Option, Some, None, length, ap, refl, rules, subst, sym, ◌∙◌}
use Rattle.ivy_wire.specs.stated.Data.{Parcel}
use Rattle.ivy_pagetable.specs.declared.Entry.TheVariants as entry
use Rattle.ivy_pagetable.specs.declared.Out.{Out}
use Rattle.ivy_pagetable.specs.declared.PutOff.{PutOff}
use Rattle.ivy_pagetable.specs.declared.Request.{Request}
use Rattle.ivy_pagetable.specs.declared.Word.{Word}
use Rattle.ivy_pagetable.specs.stated.Manager.{Ops}
use Rattle.ivy_pagetable.specs.stated.States.{IdleState, WaitingState}
use Rattle.ivy_pagetable.specs.stated.TableState.{Table}
use Rattle.ivy_pagetable.specs.stated.Tables.{with_entry, with_page}
use Rattle.ivy_pagetable.specs.stated.Words.{carried_out}
use Rattle.ivy_coherence.specs.stated.Coherent.{Coherent}
use Rattle.ivy_coherence.specs.stated.MessageSteps.{unlocked_as, reply_as, word_unlocked}
use Rattle.ivy_coherence.specs.stated.Serving.{put_off_served}
use Rattle.ivy_coherence.specs.stated.Several.{all_carried}
use Rattle.ivy_coherence.proofs.keeping.Opened.{spare_after, entries_then, unlock_word, unlock_fits, unlock_sound}
use Rattle.ivy_coherence.proofs.coherence.Coherence.word_came.Goals as goal

pub carry_out-out-requires : goal.carry_out-out-requires
carry_out-out-requires g c =
    rw (c.word.ensures, c.in_ok-fill.ensures.ok)
    (unlock_word g.met.M.Manager.laws _ _ c.self.view_is c.self.invariant.0 c.args.page c.args.kind
    c.args.bytes.now c.args.waiting.now c.requires.waits c.requires.sized)

pub carry-requires : goal.carry-requires
carry-requires g c =
    c.carry_out-out.ensures.sized ∙ ap length c.in_ok-fill.ensures.ok ∙ c.requires.sized
    ∙ sym (ap (λ (x : Coherent _). x.config.page_size) c.self.view_is) ∙ sym c.self.invariant.2

pub serve_put_off-requires-clause-fits : goal.serve_put_off-requires-clause-fits
serve_put_off-requires-clause-fits g c =
    let sized : length c.bytes.result.now ≡ c.args.self.now.config.page_size =
    ap length c.bytes.ensures ∙ c.carry.ensures.sized ∙ c.carry_out-out.ensures.sized
    ∙ ap length c.in_ok-fill.ensures.ok ∙ c.requires.sized in
    unlock_fits g.met.M.Manager.laws _ _ c.self.view_is c.self.invariant.0 c.args.from c.args.page
    c.args.kind c.bytes.result.now c.args.waiting.now _ _ _ _ _
    (record {
      below = c.requires.from;
      foreign = c.requires.foreign;
      inside = c.requires.page;
      sized = sized;
    }) c.requires.waits c.unlocked_as-idle.ensures c.reply_as-reply.ensures
    c.put_offs-messages.ensures.list c.requires.post.config c.requires.post.node

pub invariant_of-self-2 : goal.invariant_of-self-2
invariant_of-self-2 g c =
    let long : length c.carry.new.page ≡ c.args.self.now.config.page_size =
    c.carry.ensures.sized ∙ c.carry_out-out.ensures.sized ∙ ap length c.in_ok-fill.ensures.ok
    ∙ c.requires.sized in
    let sized : length c.bytes.result.now ≡ c.args.self.now.config.page_size =
    ap length c.bytes.ensures ∙ long in (
      rw c.end.ensures (unlock_sound g.met.M.Manager.laws _ _ c.self.view_is c.self.invariant.0
          c.args.from c.args.page c.args.kind c.bytes.result.now c.carry.new.page c.args.waiting.now
          c.unlocked_as-idle.result _ _ c.put_offs-messages.result.now _ _ _ _ _ c.requires.here
          (record {
            below = c.requires.from;
            foreign = c.requires.foreign;
            inside = c.requires.page;
            sized = sized;
          }) long c.requires.waits
          c.unlocked_as-idle.ensures c.reply_as-reply.ensures c.put_offs-messages.ensures.list
          c.in_ok-after.ensures.idle
          (rw c.set_entry.ensures at c.exchange.ensures.page)
          c.in_ok-after.ensures.manager c.in_ok-after.ensures.breaches),
      spare_after _ _ c.self.view_is c.self.invariant.0 c.set_entry.new.self
          c.carry.new.page c.exchange.new.spare
          (entries_then _ _ c.self.view_is c.self.invariant.0 c.set_entry.new.self c.args.page _
          c.set_entry.ensures) long c.exchange.ensures.kept,
      rw (c.end.ensures, c.carry.ensures.size) c.self.invariant.2,
    )

-- what is known before the put-off messages are served
record IsCarried {S : Type 0} (v : Coherent S) (kind : Request) (bytes filled carried now shown : List ℕ)
    (word : Word) (w : WaitingState) (i : IdleState) (reply : Option Request) (qs : List PutOff)
    : Type 0 where
  pub filled_is : filled ≡ bytes
  pub word_is : word ≡ w.word
  pub carried_is : carried ≡ (carried_out word filled).bytes
  pub now_is : now ≡ (all_carried v.more carried).bytes
  pub shown_is : shown ≡ now
  pub idle_is : i ≡ unlocked_as kind
  pub reply_is : reply ≡ reply_as kind w
  pub list_is : qs ≡ w.put_off

module _ {S : Type 0} (ops : Ops S) (n v : Coherent S) (same : v ≡ n) (from page : ℕ)
    (kind : Request) (bytes filled carried now shown : List ℕ) (word : Word) (w : WaitingState)
    (i : IdleState) (reply : Option Request) (qs : List PutOff)
    (k : IsCarried v kind bytes filled carried now shown word w i reply qs) where
  unlocking_posts : (put_off_served ops v.me from page shown i v.manager v.breaches reply qs).posted
      ≡ (word_unlocked ops n from page (unlocked_as kind) (reply_as kind w) bytes w).posted
  unlocking_posts =
      subst (λ (x : Coherent S).
      (put_off_served ops v.me from page shown i v.manager v.breaches reply qs).posted
      ≡ (word_unlocked ops x from page (unlocked_as kind) (reply_as kind w) bytes w).posted) same
      (rw (
        k.shown_is,
        k.now_is,
        k.carried_is,
        k.filled_is,
        k.word_is,
        k.idle_is,
        k.reply_is,
        k.list_is,
      ) refl)

  unlocking_then : (after : IdleState) (t : Table) (m : S) (o : Out) (os : List Out) (b : ℕ)
      → o ≡ (carried_out word filled).out → os ≡ (all_carried v.more carried).outs
      → after ≡ (put_off_served ops v.me from page shown i v.manager v.breaches reply qs).idle
      → t ≡ with_page (with_entry v.table page (entry.Idle after)) page now
      → m ≡ (put_off_served ops v.me from page shown i v.manager v.breaches reply qs).manager
      → b ≡ (put_off_served ops v.me from page shown i v.manager v.breaches reply qs).breaches
      → record {
        config = v.config;
        me = v.me;
        sends_on = v.sends_on;
        table = t;
        manager = m;
        locked = None;
        fetched = v.fetched;
        more = [];
        done = Some o;
        done_more = os;
        breaches = b;
      } ≡ (word_unlocked ops n from page (unlocked_as kind) (reply_as kind w) bytes w).after
  unlocking_then after t m o os b out outs after_is table manager breaches =
      subst (λ (x : Coherent S). record {
        config = v.config;
        me = v.me;
        sends_on = v.sends_on;
        table = t;
        manager = m;
        locked = None;
        fetched = v.fetched;
        more = [];
        done = Some o;
        done_more = os;
        breaches = b;
      } ≡ (word_unlocked ops x from page (unlocked_as kind) (reply_as kind w) bytes w).after) same
      (rw (
        table,
        manager,
        breaches,
        after_is,
        out,
        outs,
        k.shown_is,
        k.now_is,
        k.carried_is,
        k.filled_is,
        k.word_is,
        k.idle_is,
        k.reply_is,
        k.list_is,
      ) refl)

pub returns : goal.returns
returns g c =
    let k : IsCarried _ c.args.kind c.args.bytes.now _ c.carry_out-out.new.self
    c.carry.new.page c.bytes.result.now c.word.result c.args.waiting.now c.unlocked_as-idle.result
    c.reply_as-reply.result c.put_offs-messages.result.now = record {
      filled_is = c.in_ok-fill.ensures.ok;
      word_is = c.word.ensures;
      carried_is = c.carry_out-out.ensures.bytes;
      now_is = c.carry.ensures.bytes;
      shown_is = c.bytes.ensures;
      idle_is = c.unlocked_as-idle.ensures;
      reply_is = c.reply_as-reply.ensures;
      list_is = c.put_offs-messages.ensures.list;
    } in
    let posts =
    unlocking_posts g.M.Manager.ops _ _ c.self.view_is c.args.from c.args.page _ _ _ _ _ _ _ _ _ _ _
    k in
    record {
      ok = rw c.end.ensures
          (unlocking_then g.M.Manager.ops _ _ c.self.view_is c.args.from c.args.page _ _ _ _ _ _ _ _
          _ _ _ k _ _ _ _ _ _ c.carry_out-out.ensures.out c.carry.ensures.came
          c.in_ok-after.ensures.idle (rw c.set_entry.ensures at c.exchange.ensures.page)
          c.in_ok-after.ensures.manager c.in_ok-after.ensures.breaches);
      posted = c.in_ok-after.ensures.posted ∙ ap (g.P.Post.ops.after c.args.post.now) posts;
      took = subst (λ (ps : List Parcel). g.P.Post.ops.takes c.args.post.now ps) posts
          c.in_ok-after.ensures.took;
      err = search rules;
      fault = search rules;
      want = search rules;
    }
