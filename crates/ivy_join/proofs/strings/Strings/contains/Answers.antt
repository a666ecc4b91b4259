-- None with the hash was passed over, and one that was looked at is another one.
use Rattle.std.proofs.Common.{rules, ◌≡◌, ◌<◌, length, Contains, None, refl, sym, subst}
use Rattle.ivy_join.proofs.Latest.{LooksFrom, looks-first, looks-found, looks-inside, looks-none, looks-on, rank_falls}
use Rattle.ivy_join.proofs.strings.Strings.contains.Goals as goal

pub loop-next-init : goal.loop-next-init
loop-next-init g c = (
  length c.self.inside.strings.items,
  looks-first c.self.inside.strings.items c.self.inside.earlier.items _ c.args.bytes.now c.copied-next.result
      c.self.invariant (search rules),
)

pub index-requires : goal.index-requires
index-requires g c =
    let inside : c.in-Some.place < length c.self.inside.strings.items =
    looks-inside c.self.inside.strings.items c.self.inside.earlier.items _ c.args.bytes.now c.self.invariant
    c.loop-next.next c.in-Some.place c.in-Some.is c.loop-next.invariant in
    search rules

pub returns-then-eq : goal.returns-then-eq
returns-then-eq g c =
    let inside = looks-inside c.self.inside.strings.items c.self.inside.earlier.items _ c.args.bytes.now
    c.self.invariant c.loop-next.next c.in-Some.place c.in-Some.is c.loop-next.invariant in
    let same : c.index.result.now ≡ c.args.bytes.now = search rules in
    let found : Contains c.args.self.now c.args.bytes.now =
    subst (λ l. Contains l c.args.bytes.now) c.self.view_is
    (looks-found c.self.inside.strings.items c.in-Some.place c.index.result.now c.args.bytes.now inside
    c.index.ensures same) in
    ((λ yes. found), (λ there. refl))

pub index-next-requires : goal.index-next-requires
index-next-requires g c =
    let inside : c.in-Some.place < length c.self.inside.strings.items =
    looks-inside c.self.inside.strings.items c.self.inside.earlier.items _ c.args.bytes.now c.self.invariant
    c.loop-next.next c.in-Some.place c.in-Some.is c.loop-next.invariant in
    let count : length c.self.inside.earlier.items ≡ length c.self.inside.strings.items = c.self.invariant.count in
    search rules

pub loop-next-smaller : goal.loop-next-smaller
loop-next-smaller g c =
    rank_falls c.loop-next.next c.index-next.result.now c.self.inside.strings.items c.args.bytes.now c.in-Some.place
    c.in-Some.is
    (looks-on c.self.inside.strings.items c.self.inside.earlier.items _ c.args.bytes.now c.self.invariant
    c.loop-next.next c.in-Some.place c.in-Some.is c.loop-next.invariant c.index.result.now c.index-next.result.now
    c.index.ensures (search rules) c.index-next.ensures)

pub loop-next-preserved : goal.loop-next-preserved
loop-next-preserved g c = (
  c.in-Some.place,
  looks-on c.self.inside.strings.items c.self.inside.earlier.items _ c.args.bytes.now c.self.invariant
      c.loop-next.next c.in-Some.place c.in-Some.is c.loop-next.invariant c.index.result.now
      c.index-next.result.now c.index.ensures (search rules) c.index-next.ensures,
)

pub returns : goal.returns
returns g c =
    let none : c.loop-next.next ≡ None = search rules in
    let never = looks-none c.self.inside.strings.items c.args.bytes.now c.loop-next.invariant.0
    (subst (λ o. LooksFrom c.self.inside.strings.items c.args.bytes.now o c.loop-next.invariant.0) none
    c.loop-next.invariant.1) in (
      (λ yes. (cc)),
      (λ there. absurd (never (subst (λ l. Contains l c.args.bytes.now) (sym c.self.view_is) there))),
    )
