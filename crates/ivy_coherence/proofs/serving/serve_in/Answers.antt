use Rattle.std.proofs.Common.{◌≡◌, ℕ, List, Option, [], ap, ◌∙◌, sym, map, rules}
use Rattle.ivy_wire.specs.Lent.{owned_parcel}
use Rattle.ivy_pagetable.specs.declared.PutOff.{PutOff}
use Rattle.ivy_pagetable.specs.declared.Request.{Request}
use Rattle.ivy_pagetable.specs.stated.States.{IdleState}
use Rattle.ivy_pagetable.specs.stated.Manager.{Ops}
use Rattle.ivy_coherence.specs.stated.Serving.{Serving, serving, all_served, told, put_off_served}
use Rattle.ivy_coherence.proofs.keeping.Undoing.{IsMadeBy, put_off_served-follows, me-follows, undone}
use Rattle.ivy_coherence.proofs.serving.serve_in.Goals as goal

-- the manager learns of the reply first, then all messages are served
settled_then : {S : Type 0} (ops : Ops S) (me from page : ℕ) (bytes : List ℕ) (idle : IdleState)
    (m : S) (breaches : ℕ) (reply : Option Request) (qs : List PutOff) (n : S) (v : Serving S)
    → n ≡ told ops from page m reply
    → v ≡ all_served ops me page bytes (serving idle n breaches []) qs
    → v ≡ put_off_served ops me from page bytes idle m breaches reply qs
settled_then ops me from page bytes idle m breaches reply qs n v replied each =
    each ∙ ap (λ x. all_served ops me page bytes (serving idle x breaches []) qs) replied

-- and what it is then, it is by calls for this page
follows_then : {S : Type 0} (ops : Ops S) (me from page : ℕ) (bytes : List ℕ) (idle : IdleState)
    (m : S) (breaches : ℕ) (reply : Option Request) (qs : List PutOff) (n : S) (v : Serving S)
    → n ≡ told ops from page m reply
    → v ≡ all_served ops me page bytes (serving idle n breaches []) qs
    → IsMadeBy ops page m v.manager
follows_then ops me from page bytes idle m breaches reply qs n v replied each =
    rw (settled_then ops me from page bytes idle m breaches reply qs n v replied each)
    (put_off_served-follows ops page me bytes from idle m breaches reply qs)

pub post-requires : goal.post-requires
post-requires g c =
    let ops = g.M.Manager.ops in
    let at = c.args.at in
    let v = serving c.serve_all.new.idle c.serve_all.new.manager c.serve_all.new.breaches
    (map owned_parcel c.serve_all.new.out.items) in
    let replied : c.match-reply.manager ≡ told ops at.from at.page c.args.manager.now c.args.reply =
    search rules in
    let all =
    settled_then ops at.me at.from at.page at.bytes.now c.args.idle c.args.manager.now
    c.args.breaches.now c.args.reply c.args.messages.now c.match-reply.manager v replied
    c.serve_all.ensures.after in
    record {
      fits =
          rw (ap (map owned_parcel) c.as_slice.ensures.value ∙ ap (λ v. v.posted) all)
          c.requires.fits;
    }

pub take_back-requires : goal.take_back-requires
take_back-requires g c =
    let ops = g.M.Manager.ops in
    let at = c.args.at in
    let v = serving c.serve_all.new.idle c.serve_all.new.manager c.serve_all.new.breaches
    (map owned_parcel c.serve_all.new.out.items) in
    let replied : c.match-reply.manager ≡ told ops at.from at.page c.args.manager.now c.args.reply =
    search rules in
    let follows =
    follows_then ops at.me at.from at.page at.bytes.now c.args.idle c.args.manager.now
    c.args.breaches.now c.args.reply c.args.messages.now c.match-reply.manager v replied
    c.serve_all.ensures.after in
    c.requires.mine
    ∙ sym (me-follows g.met.M.Manager.laws at.page c.args.manager.now c.serve_all.new.manager
    follows)

pub returns-in-Err : goal.returns-in-Err
returns-in-Err g c =
    let ops = g.M.Manager.ops in
    let at = c.args.at in
    let v = serving c.serve_all.new.idle c.serve_all.new.manager c.serve_all.new.breaches
    (map owned_parcel c.serve_all.new.out.items) in
    let replied : c.match-reply.manager ≡ told ops at.from at.page c.args.manager.now c.args.reply =
    search rules in
    let follows =
    follows_then ops at.me at.from at.page at.bytes.now c.args.idle c.args.manager.now
    c.args.breaches.now c.args.reply c.args.messages.now c.match-reply.manager v replied
    c.serve_all.ensures.after in
    let back : c.take_back.new.manager ≡ c.args.manager.now =
    rw (c.take_back.ensures, c.next_hop-hop.ensures)
    (undone g.met.M.Manager.laws at.page c.args.manager.now c.serve_all.new.manager at.from
    follows) in
    record {
      idle = search rules;
      manager = search rules;
      breaches = search rules;
      posted = search rules;
      took = search rules;
      err = (back, search rules);
      fault = search rules;
      want = search rules;
    }
