-- What happens touches one node, or none: what it does there, and that what is handed in in the end
-- extends what the node's owner has handed in at each moment.
use Rattle.std.proofs.Common.{◌≡◌, ◌⊎◌, inl, inr, ℕ, List, [], ◌∷◌, map, set, take, slice_get, Contains, Some, option_map, refl, sym, ap, subst, ◌∙◌, arith, ⊎_elim}
use Rattle.std.proofs.lemmas.Bool.{cases_eq}
use Rattle.std.proofs.lemmas.List.Elements.{Contains-append_left, Contains-append_right, Contains-push_cases}
use Rattle.std.proofs.lemmas.Option.{same_Some, slice_get-map}
use Rattle.ivy_model.specs.declared.Config.{Config}
use Rattle.ivy_model.specs.stated.Config.{IsConfig}
use Rattle.ivy_program.specs.stated.Programs.{Program}
use Rattle.ivy_moves.proofs.Places.{set-cases, set-elsewhere, set-there}
use Rattle.ivy_site.specs.SiteView.{SiteView}
use Rattle.ivy_embedded.specs.declared.lending.Lending.{Lending as Mark}
use Rattle.ivy_embedded.specs.Exports.{ChangesWaiting}
use Rattle.ivy_embedded.specs.Lending.{LendsSoundly}
use Rattle.ivy_embedded.specs.Nodes.{Embedded, waiting_in}
use Rattle.ivy_embedded.specs.declared.status.TheConstants.{DONE}
use Rattle.ivy_embedded.proofs.Going.{IsOwn, core_of}
use Rattle.proof_embedded.specs.Driven.{Driven, program_in}
use Rattle.proof_embedded.specs.Mapped.{Mapped, Happening, Ask, Lend, GiveBack, GoOn, Look, Point, HappensSo, HappenTo, IsCalled}
use Rattle.proof_embedded.proofs.Additions.{grown}
use Rattle.proof_embedded.proofs.Driving.{done_none, done_short}
use Rattle.proof_embedded.proofs.Effects.{HasEffect, IsActed, IsEmptied, IsKept, asked_lent, chain_config, chain_extends, chain_own, effect, went_on}
use Rattle.proof_embedded.proofs.Lifted.{Extends, program_of}
use Rattle.proof_embedded.proofs.Requests.{nothing_done}

-- one node changes, with this effect
pub record IsTouched (c : Config) (old new : Driven) : Type 0 where
  pub node : ℕ
  pub before : Embedded
  pub there : slice_get old.nodes node ≡ Some before
  pub after : Embedded
  pub nodes : new.nodes ≡ set old.nodes node after
  pub sound : LendsSoundly after
  pub effect : HasEffect c old.strings before after new.strings

-- the nodes at a moment
abbrev pub AreKept : Config → Driven → Type 0
AreKept c d = (i : ℕ) (e : Embedded) → slice_get d.nodes i ≡ Some e → IsKept c e

-- a node as it was, but for what it lends
same_site : (c : Config) (strings : List (List ℕ)) (s t : Embedded) (lent : List Mark)
    → t ≡ record s { lent = lent } → IsActed c strings s t
same_site c strings s t lent is = record {
  first = ap (λ (e : Embedded). e.first) is;
  chain = nothing_done c s.lent strings s.site t.site (ap (λ (e : Embedded). e.site) is);
}

-- a function that lends or looks touches its node alone
called : (c : Config) (i : ℕ) (old new : Mapped) (call : IsCalled i old new)
    → IsActed c old.driven.strings call.before call.after → IsTouched c old.driven new.driven
called c i old new call acted = record {
  node = i;
  before = call.before;
  there = call.there;
  after = call.after;
  nodes = call.nodes;
  sound = call.sound;
  effect = inl (acted, call.strings);
}

-- the programs have all that the owners hand in
abbrev pub AllExtend : List Program → Driven → Type 0
AllExtend ps d = (i : ℕ) (e : Embedded) (p : Program) → slice_get d.nodes i ≡ Some e
    → slice_get ps i ≡ Some p → Extends p e.site

module _ (c : Config) (limits : IsConfig c) where
  pub touched : (h : Happening) (old new : Mapped) → HappensSo c h old new → AreKept c old.driven
      → (new.driven ≡ old.driven) ⊎ IsTouched c old.driven new.driven
  touched (Ask i request) old new h kept = inr (record {
    node = i;
    before = h.asks.before;
    there = h.asks.there;
    after = h.asks.after;
    nodes = h.asks.nodes;
    sound = h.sound;
    effect = effect c limits old.driven.strings h.asks.before h.asks.after
        (kept i h.asks.before h.asks.there) h.sound
        (asked_lent request old.driven.strings new.driven.strings h.asks.before h.asks.after h.asks.does)
        request new.driven.strings h.asks.does;
  })
  touched (Lend i page number) old new h kept = inr (called c i old new h.call
      (⊎_elim (λ does. same_site c old.driven.strings h.call.before h.call.after _ does.4)
      (λ refused. same_site c old.driven.strings h.call.before h.call.after (h.call.before).lent refused.1)
      h.does))
  touched (GiveBack i page number) old new h kept = inr (called c i old new h.call
      (⊎_elim (λ does. same_site c old.driven.strings h.call.before h.call.after _ does.4)
      (λ refused. same_site c old.driven.strings h.call.before h.call.after (h.call.before).lent refused.1)
      h.does))
  touched (GoOn i peer) old new h kept = inr (called c i old new h.call
      (⊎_elim
      (λ does. went_on c limits old.driven.strings h.call.before h.call.after
      (kept i h.call.before h.call.there) h.call.sound does.2.on.2 peer does.2.more does.2.on.0
      does.2.on.1)
      (λ refused. same_site c old.driven.strings h.call.before h.call.after (h.call.before).lent refused.1)
      h.does))
  touched (Look i bytes) old new h kept = inr (called c i old new h.call
      (⊎_elim
      (λ does. same_site c old.driven.strings h.call.before h.call.after (h.call.before).lent does.0)
      (λ none. absurd none.0) h.does))
  touched (Point a) old new h kept = inl h.driven

  -- a string was taken out, or none was
  module _ (s t : Embedded) (strings more : List (List ℕ)) (e : IsEmptied s t strings more) where
    pub emptied_same : ChangesWaiting s t
    emptied_same = e.takes.0

    pub waits_fewer : (bytes : List ℕ) → Contains (waiting_in t) bytes
        → Contains (waiting_in s) bytes
    waits_fewer bytes has =
        ⊎_elim
        (λ given. subst (λ l. Contains l bytes) (sym given.1.0)
        (Contains-append_right (_ ∷ []) (waiting_in t) bytes has))
        (λ rest. ⊎_elim (λ short. subst (λ l. Contains l bytes) short.1.0 has)
        (λ none. subst (λ l. Contains l bytes) (none.2 ∙ sym none.1) has) rest) e.takes.1

    pub out_from : (bytes : List ℕ) → Contains more bytes
        → Contains strings bytes ⊎ Contains (waiting_in s) bytes
    out_from bytes has =
        ⊎_elim
        (λ one. ⊎_elim inl
        (λ same. inr (subst (Contains (waiting_in s)) same (first one.0)))
        (Contains-push_cases strings _ bytes (subst (λ l. Contains l bytes) one.1 has)))
        (λ none. inl (subst (λ l. Contains l bytes) none.1 has)) e.out
      where
        first : e.status ≡ DONE → Contains (waiting_in s) (take e.len e.buffer)
        first done =
            ⊎_elim
            (λ given. subst (λ l. Contains l (take e.len e.buffer)) (sym given.1.0)
            (Contains-append_left (_ ∷ []) (waiting_in t) _
            (0, omega arith, refl)))
            (λ rest. ⊎_elim (λ short. absurd (done_short e.status done short.0))
            (λ none. absurd (done_none e.status done none.0)) rest) e.takes.1

  -- the node is kept, and what extends its program extended it before

  kept_by : (strings more : List (List ℕ)) (s t : Embedded) → IsKept c s → LendsSoundly t
      → HasEffect c strings s t more → IsKept c t
  kept_by strings more s t kept sound (inl acted) =
      let within : IsConfig s.site.config = subst IsConfig (sym kept.config) limits in
      let chain = acted.0.chain in record {
        config = chain_config c s.lent strings chain.acts s.site t.site within chain.all ∙ kept.config;
        own = chain_own c s.lent strings chain.acts s.site t.site within chain.all kept.own;
        sound = sound;
      }
  kept_by strings more s t kept sound (inr emptied) = record {
    config = ap (λ (x : SiteView). x.config) (emptied_same s t strings more emptied) ∙ kept.config;
    own = subst (λ (x : SiteView). IsOwn (core_of x)) (sym (emptied_same s t strings more emptied)) kept.own;
    sound = sound;
  }

  extends_by : (p : Program) (strings more : List (List ℕ)) (s t : Embedded) → IsKept c s
      → HasEffect c strings s t more → Extends p t.site → Extends p s.site
  extends_by p strings more s t kept (inl acted) e =
      let within : IsConfig s.site.config = subst IsConfig (sym kept.config) limits in
      let chain = acted.0.chain in
      chain_extends c s.lent strings p chain.acts s.site t.site within chain.all e
  extends_by p strings more s t kept (inr emptied) e =
      (e.0, e.1 ∙ ap (λ (x : SiteView). grown e.0 (program_of x)) (emptied_same s t strings more emptied))

  pub kept_on : (d d' : Driven) → AreKept c d → (d' ≡ d) ⊎ IsTouched c d d' → AreKept c d'
  kept_on d d' kept (inl same) j e at = subst (AreKept c) (sym same) kept j e at
  kept_on d d' kept (inr touch) j e at =
      ⊎_elim
      (λ here. subst (IsKept c) (sym here.1)
      (kept_by d.strings d'.strings touch.before touch.after (kept touch.node touch.before touch.there)
      touch.sound touch.effect))
      (λ old. kept j e old)
      (set-cases d.nodes touch.node j touch.after e (ap (λ ns. slice_get ns j) (sym touch.nodes) ∙ at))

  extend_before : (ps : List Program) (d d' : Driven) → AreKept c d
      → (d' ≡ d) ⊎ IsTouched c d d' → AllExtend ps d' → AllExtend ps d
  extend_before ps d d' kept (inl same) all i e p at has = subst (AllExtend ps) same all i e p at has
  extend_before ps d d' kept (inr touch) all i e p at has =
      elim (cases_eq i touch.node) [
        | inl same ↦
            let here : slice_get d'.nodes i ≡ Some touch.after =
            ap (λ ns. slice_get ns i) touch.nodes ∙ ap (slice_get (set d.nodes touch.node touch.after)) same
            ∙ set-there d.nodes touch.node touch.after touch.before touch.there in
            let is : touch.before ≡ e =
            same_Some touch.before e (sym touch.there ∙ ap (slice_get d.nodes) (sym same) ∙ at) in
            subst (λ (x : Embedded). Extends p x.site) is
            (extends_by p d.strings d'.strings touch.before touch.after
            (kept touch.node touch.before touch.there) touch.effect (all i touch.after p here has))
        | inr ne ↦
            all i e p
            (ap (λ ns. slice_get ns i) touch.nodes
            ∙ set-elsewhere d.nodes touch.node i touch.after (λ x. ne (sym x))
            ∙ at) has
      ]

  extend_own : (d : Driven) → AllExtend (map program_in d.nodes) d
  extend_own d i e p at has =
      let is : program_in e ≡ p =
      same_Some (program_in e) p
      (sym (slice_get-map program_in d.nodes i ∙ ap (option_map program_in) at) ∙ has) in
      ([], sym is)

  pub extended : (hs : List Happening) (m end : Mapped) → HappenTo c m hs end → AreKept c m.driven
      → AllExtend (map program_in end.driven.nodes) m.driven
  extended [] m end led kept =
      subst (λ (x : Mapped). AllExtend (map program_in x.driven.nodes) m.driven) (sym led)
      (extend_own m.driven)
  extended (h ∷ hs) m end led kept =
      let touch = touched h m led.0 led.1 kept in
      extend_before (map program_in end.driven.nodes) m.driven (led.0).driven kept touch
      (extended hs led.0 end led.2 (kept_on m.driven (led.0).driven kept touch))
