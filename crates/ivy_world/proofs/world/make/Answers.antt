use Rattle.std.proofs.Common.{rules, refl, ◌≡◌, slice_get, Some, sym, ◌<◌, ◌≢◌, ◌++◌, length, ap, ◌∙◌, arith}
use Rattle.std.proofs.lemmas.Option.{slice_get_read}
use Rattle.ivy_model.specs.declared.Config.{Config}
use Rattle.ivy_memory.proofs.keeping.Beginning.{err_there}
use Rattle.ivy_world.proofs.Idling.{idle_turn}
use Rattle.ivy_world.proofs.Making.{turn_went, turn_refused, pulse_went, delivery_refused, delivery_spelled}
use Rattle.ivy_world.proofs.GoingOn.{went_there, delivery_went}
use Rattle.ivy_world.proofs.world.make.Goals as goal

pub returns-in_err-turn-in-Turn-clause-cause : goal.returns-in_err-turn-in-Turn-clause-cause
returns-in_err-turn-in-Turn-clause-cause g c =
    err_there c.from_residual-in_err-turn-in-Turn.result _ _
    c.from_residual-in_err-turn-in-Turn.ensures.1
    (turn_refused c.args.config.now c.args.sites.now.items c.args.sent.now.items c.in-Turn.node
    c.index_mut-site.result.now c.args.step _
    (slice_get_read c.args.sites.now.items (length c.args.sites.now.items) c.in-Turn.node
    c.index_mut-site.result.now refl (search rules) c.index_mut-site.ensures.value) c.in-Turn.is
    c.in_err-turn-in-Turn.ensures.spent c.in_err-turn-in-Turn.ensures.want)

pub collect-requires : goal.collect-requires
collect-requires g c =
    let few = c.in_ok-turn-in-Turn.ensures.few in
    let none =
    ap length
    (c.requires.sites.none_waits c.in-Turn.node c.index_mut-site.result.now
    (slice_get_read c.args.sites.now.items (length c.args.sites.now.items) c.in-Turn.node
    c.index_mut-site.result.now refl (search rules) c.index_mut-site.ensures.value)) in
    let room = c.in_ok-reserve-in-Turn.ensures.capacity in
    let len = c.in_ok-reserve-in-Turn.ensures.len in
    let ok = c.in_ok-reserve-in-Turn.ensures.ok in
    record { room = omega (arith, few, none, room, len, ok) }

pub deliver_spelled-requires : goal.deliver_spelled-requires
deliver_spelled-requires g c =
    let found : slice_get c.args.sent.now.items c.in-Deliver.index ≡ Some c.index.result.now =
    ap (λ l. slice_get l c.in-Deliver.index) (sym c.reserve-in-Deliver.ensures.items)
    ∙ (slice_get_read c.reserve-in-Deliver.new.self.items
    (length c.reserve-in-Deliver.new.self.items) c.in-Deliver.index c.index.result.now refl
    (search rules) c.index.ensures) in
    record {
      spelled =
          delivery_spelled c.args.config.now c.args.sites.now.items c.args.sent.now.items
          c.in-Deliver.index c.in-Deliver.to c.index_mut-site-in-Deliver.result.now c.index.result.now
          c.requires.sites c.requires.spelled
          (slice_get_read c.args.sites.now.items (length c.args.sites.now.items) c.in-Deliver.to
          c.index_mut-site-in-Deliver.result.now refl (search rules)
          c.index_mut-site-in-Deliver.ensures.value) found;
    }

pub returns-in_err-deliver_spelled-in-Deliver-clause-cause : goal.returns-in_err-deliver_spelled-in-Deliver-clause-cause
returns-in_err-deliver_spelled-in-Deliver-clause-cause g c =
    let found : slice_get c.args.sent.now.items c.in-Deliver.index ≡ Some c.index.result.now =
    ap (λ l. slice_get l c.in-Deliver.index) (sym c.reserve-in-Deliver.ensures.items)
    ∙ (slice_get_read c.reserve-in-Deliver.new.self.items
    (length c.reserve-in-Deliver.new.self.items) c.in-Deliver.index c.index.result.now refl
    (search rules) c.index.ensures) in
    err_there c.from_residual-in_err-deliver_spelled-in-Deliver.result _ _
    c.from_residual-in_err-deliver_spelled-in-Deliver.ensures.1
    (delivery_refused c.args.config.now c.args.sites.now.items c.args.sent.now.items
    c.in-Deliver.index c.in-Deliver.to c.index_mut-site-in-Deliver.result.now c.index.result.now
    c.args.step _ c.requires.limits c.requires.sites c.requires.spelled
    (slice_get_read c.args.sites.now.items (length c.args.sites.now.items) c.in-Deliver.to
    c.index_mut-site-in-Deliver.result.now refl (search rules)
    c.index_mut-site-in-Deliver.ensures.value) found c.in-Deliver.is
    c.in_err-deliver_spelled-in-Deliver.ensures.want
    c.in_err-deliver_spelled-in-Deliver.ensures.spent)

pub collect-requires-in-Deliver : goal.collect-requires-in-Deliver
collect-requires-in-Deliver g c =
    let few = c.in_ok-deliver_spelled-in-Deliver.ensures.few in
    let none =
    ap length
    (c.requires.sites.none_waits c.in-Deliver.to c.index_mut-site-in-Deliver.result.now
    (slice_get_read c.args.sites.now.items (length c.args.sites.now.items) c.in-Deliver.to
    c.index_mut-site-in-Deliver.result.now refl (search rules)
    c.index_mut-site-in-Deliver.ensures.value)) in
    let room = c.in_ok-reserve-in-Deliver.ensures.capacity in
    let len = c.in_ok-reserve-in-Deliver.ensures.len in
    let ok = c.in_ok-reserve-in-Deliver.ensures.ok in
    record { room = omega (arith, few, none, room, len, ok) }

pub pulse-requires-clause-to : goal.pulse-requires-clause-to
pulse-requires-clause-to g c =
    let config =
    ap (λ (k : Config). k.nodes)
    (c.requires.sites.config c.in-Pulse.from c.index_mut-site-in-Pulse.result.now
    (slice_get_read c.args.sites.now.items (length c.args.sites.now.items) c.in-Pulse.from
    c.index_mut-site-in-Pulse.result.now refl (search rules)
    c.index_mut-site-in-Pulse.ensures.value)) in
    let each = c.requires.each in
    let within : c.in-Pulse.to < length c.args.sites.now.items = search rules in
    omega (arith, config, each, within)

pub pulse-requires-clause-other : goal.pulse-requires-clause-other
pulse-requires-clause-other g c =
    let me =
    c.requires.sites.me c.in-Pulse.from c.index_mut-site-in-Pulse.result.now
    (slice_get_read c.args.sites.now.items (length c.args.sites.now.items) c.in-Pulse.from
    c.index_mut-site-in-Pulse.result.now refl (search rules)
    c.index_mut-site-in-Pulse.ensures.value) in
    let apart : c.in-Pulse.from ≢ c.in-Pulse.to = search rules in
    λ same. apart (sym me ∙ sym same)

pub collect-requires-in-Pulse : goal.collect-requires-in-Pulse
collect-requires-in-Pulse g c =
    let few = c.in_ok-pulse-in-Pulse.ensures.few in
    let none =
    ap length
    (c.requires.sites.none_waits c.in-Pulse.from c.index_mut-site-in-Pulse.result.now
    (slice_get_read c.args.sites.now.items (length c.args.sites.now.items) c.in-Pulse.from
    c.index_mut-site-in-Pulse.result.now refl (search rules)
    c.index_mut-site-in-Pulse.ensures.value)) in
    let room = c.in_ok-reserve-in-Pulse.ensures.capacity in
    let len = c.in_ok-reserve-in-Pulse.ensures.len in
    let ok = c.in_ok-reserve-in-Pulse.ensures.ok in
    record { room = omega (arith, few, none, room, len, ok) }

pub returns-in_ok-turn-in-Turn-clause-after : goal.returns-in_ok-turn-in-Turn-clause-after
returns-in_ok-turn-in-Turn-clause-after g c =
    went_there _ _ _ _ _ _
    (turn_went c.args.config.now c.args.sites.now.items c.args.sent.now.items c.in-Turn.node
    c.index_mut-site.result.now c.program_turn.new.self c.collect.new.site
    c.in_ok-turn-in-Turn.turn c.args.step c.collect.new.sent.items c.requires.sites
    (slice_get_read c.args.sites.now.items (length c.args.sites.now.items) c.in-Turn.node
    c.index_mut-site.result.now refl (search rules) c.index_mut-site.ensures.value)
    c.in_ok-turn-in-Turn.ensures.done c.in-Turn.is c.collect.ensures.site
    (c.collect.ensures.sent
    ∙ ap (λ l. l ++ c.program_turn.new.self.waiting) c.reserve.ensures.items))

pub returns-in_ok-deliver_spelled-in-Deliver-clause-after : goal.returns-in_ok-deliver_spelled-in-Deliver-clause-after
returns-in_ok-deliver_spelled-in-Deliver-clause-after g c =
    let found : slice_get c.args.sent.now.items c.in-Deliver.index ≡ Some c.index.result.now =
    ap (λ l. slice_get l c.in-Deliver.index) (sym c.reserve-in-Deliver.ensures.items)
    ∙ (slice_get_read c.reserve-in-Deliver.new.self.items
    (length c.reserve-in-Deliver.new.self.items) c.in-Deliver.index c.index.result.now refl
    (search rules) c.index.ensures) in
    delivery_went c.args.config.now c.args.sites.now.items c.args.sent.now.items c.in-Deliver.index
    c.in-Deliver.to c.index_mut-site-in-Deliver.result.now c.deliver_spelled.new.self
    c.collect-in-Deliver.new.site c.index.result.now c.in_ok-deliver_spelled-in-Deliver.field-0
    c.args.step c.collect-in-Deliver.new.sent.items c.requires.limits c.requires.sites
    (slice_get_read c.args.sites.now.items (length c.args.sites.now.items) c.in-Deliver.to
    c.index_mut-site-in-Deliver.result.now refl (search rules)
    c.index_mut-site-in-Deliver.ensures.value) found
    c.in_ok-deliver_spelled-in-Deliver.ensures.done c.in-Deliver.is
    c.collect-in-Deliver.ensures.site
    (c.collect-in-Deliver.ensures.sent
    ∙ ap (λ l. l ++ c.deliver_spelled.new.self.waiting) c.reserve-in-Deliver.ensures.items)

pub returns-in_ok-pulse-in-Pulse-clause-after : goal.returns-in_ok-pulse-in-Pulse-clause-after
returns-in_ok-pulse-in-Pulse-clause-after g c =
    went_there _ _ _ _ _ _
    (pulse_went c.args.config.now c.args.sites.now.items c.args.sent.now.items c.in-Pulse.from
    c.in-Pulse.to c.index_mut-site-in-Pulse.result.now c.pulse.new.self
    c.collect-in-Pulse.new.site c.args.step c.collect-in-Pulse.new.sent.items c.requires.sites
    (slice_get_read c.args.sites.now.items (length c.args.sites.now.items) c.in-Pulse.from
    c.index_mut-site-in-Pulse.result.now refl (search rules)
    c.index_mut-site-in-Pulse.ensures.value) (search rules) (search rules)
    c.in_ok-pulse-in-Pulse.ensures.done c.in-Pulse.is c.collect-in-Pulse.ensures.site
    (c.collect-in-Pulse.ensures.sent
    ∙ ap (λ l. l ++ c.pulse.new.self.waiting) c.reserve-in-Pulse.ensures.items))

pub returns-in_ok-turn-in-Turn-clause-idle : goal.returns-in_ok-turn-in-Turn-clause-idle
returns-in_ok-turn-in-Turn-clause-idle g c =
    λ none. idle_turn c.args.config.now c.args.sites.now.items c.args.sent.now.items
    c.collect.new.sent.items c.in-Turn.node c.index_mut-site.result.now c.program_turn.new.self
    c.collect.new.site c.in_ok-turn-in-Turn.turn c.args.step c.requires.sites
    (slice_get_read c.args.sites.now.items (length c.args.sites.now.items) c.in-Turn.node
    c.index_mut-site.result.now refl (search rules) c.index_mut-site.ensures.value)
    c.in_ok-turn-in-Turn.ensures.done c.in_ok-turn-in-Turn.ensures.waits (search (rules, none))
    c.in-Turn.is c.collect.ensures.site
    (c.collect.ensures.sent
    ∙ ap (λ l. l ++ c.program_turn.new.self.waiting) c.reserve.ensures.items)
