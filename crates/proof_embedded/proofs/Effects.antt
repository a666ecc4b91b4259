-- What each function of a node does, by acts of its site, or what it does beside.
use Rattle.std.proofs.Common.{◌≡◌, ◌≢◌, ◌⊎◌, inl, inr, ℕ, ◌+◌, ◌*◌, ◌<◌, Bool, true, false, List, [], ◌∷◌, refl, sym, ap, subst, ◌∙◌, ⊎_elim}
use Rattle.ivy_model.specs.declared.Call.{Call}
use Rattle.ivy_model.specs.declared.Call.TheVariants.{Load}
use Rattle.ivy_model.specs.declared.Config.{Config}
use Rattle.ivy_model.specs.declared.Record.{Record}
use Rattle.ivy_model.specs.declared.Row.TheVariants.{Loads, Stores}
use Rattle.ivy_model.specs.stated.Config.{IsConfig}
use Rattle.ivy_model.specs.Rows.{calls_of, numbers_in, row}
use Rattle.ivy_model.proofs.Rows.{length-numbers_in}
use Rattle.ivy_memory.specs.stated.Asking.{asked_of}
use Rattle.ivy_program.specs.stated.Programs.{Program}
use Rattle.ivy_site.specs.Calls.{BeginsRow}
use Rattle.ivy_site.specs.Handed.{site_fetching, site_handed}
use Rattle.ivy_site.specs.SiteView.{SiteView}
use Rattle.ivy_site.specs.Sites.{SiteGoesOn}
use Rattle.ivy_embedded.specs.declared.lending.Lending.{Lending as Mark}
use Rattle.ivy_embedded.specs.declared.lending.Lending.TheVariants.{ToRead}
use Rattle.ivy_embedded.specs.Exports.{Takes}
use Rattle.ivy_embedded.specs.Fetches.{AfterAhead, is_to_write}
use Rattle.ivy_embedded.specs.Lending.{LendsSoundly, lending_asked, may_ask}
use Rattle.ivy_embedded.specs.Nodes.{Embedded}
use Rattle.ivy_embedded.proofs.Delivering.{delivery_program}
use Rattle.ivy_embedded.proofs.Going.{IsOwn, asked_config, begun_config, core_of, turned_config}
use Rattle.proof_lent.proofs.Members.{In}
use Rattle.proof_embedded.specs.Driven.{Request, Begin, Reply, LoadBlock, StoreBlock, BeginLoadBlock, BeginStoreBlock, TakeLoadBlock, TakeStoreBlock, Fetch, Deliver, NextFrame, Pulse, TakesOut, Does}
use Rattle.proof_embedded.proofs.Acting.{Act, Goes, IsFetched, own_on}
use Rattle.proof_embedded.proofs.Lifted.{Extends, acts_config, extends_back}
use Rattle.proof_embedded.proofs.Quiet.{AllAct, AreQuiet, Chain, IsQuiet, load_quiet, may_quiet, sound_held, sound_quiet, stores_quiet}
use Rattle.proof_embedded.proofs.Requests.{answered, begun, delivered, fetched, gone_on, nothing_done, polled, pulsed, taken, together}

-- what holds of a node at each moment
pub record IsKept (c : Config) (e : Embedded) : Type 0 where
  pub config : e.site.config ≡ c
  pub own : IsOwn (core_of e.site)
  pub sound : LendsSoundly e

-- the acts were done, and the string that was looked at stays
pub record IsActed (c : Config) (strings : List (List ℕ)) (s t : Embedded) : Type 0 where
  pub first : t.first ≡ s.first
  pub chain : Chain c s.lent strings s.site t.site

-- a string was looked for
pub record IsEmptied (s t : Embedded) (strings more : List (List ℕ)) : Type 0 where
  pub status : ℕ
  pub len : ℕ
  pub dest : ℕ
  pub buffer : List ℕ
  pub takes : Takes status buffer len dest s t
  pub out : TakesOut status buffer len strings more

-- one or the other
abbrev pub HasEffect : Config → List (List ℕ) → Embedded → Embedded → List (List ℕ) → Type 0
HasEffect c strings s t more = (IsActed c strings s t × (more ≡ strings)) ⊎ IsEmptied s t strings more

-- what a row of records asks for

loads_quiet : (c : Config) (lent : List Mark) (me addr : ℕ) (numbers : List ℕ) (r : Record)
    → In (row Loads me addr numbers) r → IsQuiet c lent r.call
loads_quiet c lent me addr [] r h = absurd h
loads_quiet c lent me addr (number ∷ more) r (inl e) =
    subst (λ (q : Record). IsQuiet c lent q.call) e (load_quiet c lent 8 addr)
loads_quiet c lent me addr (number ∷ more) r (inr h) = loads_quiet c lent me (addr + 8) more r h

-- what is lent stays so

ahead_lent : (page : ℕ) (to : Mark) (begun : Bool) (s t : Embedded) → AfterAhead begun page to s t
    → t.lent ≡ s.lent
ahead_lent page to true s t a = a.asks.2
ahead_lent page to false s t a = ap (λ (e : Embedded). e.lent) a.same

pub asked_lent : (request : Request) (strings more : List (List ℕ)) (s t : Embedded)
    → Does request strings s t more → t.lent ≡ s.lent
asked_lent (Begin kind width place operand expected) strings more s t h =
    ⊎_elim (λ does. does.4.2) (λ refused. ap (λ (e : Embedded). e.lent) refused.1) h.1.3
asked_lent Reply strings more s t h =
    ⊎_elim (λ does. does.2.2) (λ refused. ap (λ (e : Embedded). e.lent) refused.1) h.1.3
asked_lent (LoadBlock addr) strings more s t h =
    ⊎_elim (λ does. does.3.2) (λ none. absurd none.0) h.1.3
asked_lent (StoreBlock addr bytes) strings more s t h =
    ⊎_elim (λ does. does.3.2) (λ refused. ap (λ (e : Embedded). e.lent) refused.1) h.1.2
asked_lent (BeginLoadBlock addr bytes) strings more s t h =
    ⊎_elim (λ does. does.2.2) (λ refused. ap (λ (e : Embedded). e.lent) refused.1) h.1.2
asked_lent (BeginStoreBlock addr bytes) strings more s t h =
    ⊎_elim (λ does. does.2.2) (λ refused. ap (λ (e : Embedded). e.lent) refused.1) h.1.2
asked_lent (TakeLoadBlock addr) strings more s t h =
    ⊎_elim (λ does. does.4.2) (λ none. absurd none.0) h.1.3
asked_lent (TakeStoreBlock addr bytes) strings more s t h =
    ⊎_elim (λ does. does.4.2) (λ none. absurd none.0) h.1.2
asked_lent (Fetch page number) strings more s t h =
    ⊎_elim (λ does. ahead_lent page does.1 does.3 s t does.5)
    (λ refused. ap (λ (e : Embedded). e.lent) refused.1) h.1.2
asked_lent (Deliver bytes) strings more s t h =
    ⊎_elim (λ does. does.3.2) (λ refused. ap (λ (e : Embedded). e.lent) refused.1) h.2.2
asked_lent NextFrame strings more s t h = h.6
asked_lent (Pulse to) strings more s t h =
    ⊎_elim (λ does. does.3.2) (λ refused. ap (λ (e : Embedded). e.lent) refused.1) h.1.1

module _ (c : Config) (limits : IsConfig c) (strings : List (List ℕ)) (s t : Embedded)
    (kept : IsKept c s) (sound : LendsSoundly t) (lent : t.lent ≡ s.lent) where
  after : t.site.config ≡ s.site.config → AreQuiet c s.lent (core_of t.site)
  after config = sound_quiet c s.lent t sound (config ∙ kept.config) lent

  before : AreQuiet c s.lent (core_of s.site)
  before = sound_quiet c s.lent s kept.sound kept.config refl

  limits_here : IsConfig s.site.config
  limits_here = subst IsConfig (sym kept.config) limits

  may_be : (call : Call) → may_ask s.lent (asked_of s.site.config call) ≡ true → IsQuiet c s.lent call
  may_be call may =
      may_quiet c s.lent call
      (subst (λ k. may_ask s.lent (asked_of k call) ≡ true) kept.config may)

  pub unchanged : t ≡ s → IsActed c strings s t
  unchanged same = record {
    first = ap (λ (e : Embedded). e.first) same;
    chain = nothing_done c s.lent strings s.site t.site (ap (λ (e : Embedded). e.site) same);
  }

  begun_row : (calls : List Call) → BeginsRow calls s.site t.site → Chain c s.lent strings s.site t.site
  begun_row [] same = nothing_done c s.lent strings s.site t.site same
  begun_row (call ∷ calls) b =
      together c s.lent strings s.site t.site kept.own (sound_held s kept.sound)
      (after (turned_config (site_handed ((call ∷ calls) ∷ []) s.site) t.site b.turns)) (call ∷ calls) b

  pub went_on : (peer : ℕ) (more : List (List ℕ)) → t.first ≡ s.first
      → SiteGoesOn peer more s.site t.site → IsActed c strings s t
  went_on peer more first g = record {
    first = first;
    chain = gone_on c s.lent strings s.site t.site kept.own (sound_held s kept.sound)
        (after (acts_config (Goes peer more) s.site t.site limits_here g)) limits_here peer more g;
  }

  fetched_ahead : (page : ℕ) (to : Mark) (begun : Bool) → AfterAhead begun page to s t
      → IsActed c strings s t
  fetched_ahead page to true a =
      let f : IsFetched page (is_to_write to) s.site t.site =
      record { turns = a.asks.1.turns; used = a.used } in record {
        first = a.asks.0;
        chain = fetched c s.lent strings s.site t.site kept.own (sound_held s kept.sound)
            (after (turned_config (site_fetching page (is_to_write to) s.site) t.site f.turns)) page
            (is_to_write to) f a.asks.1.recorded;
      }
  fetched_ahead page to false a = unchanged a.same

  pub effect : (request : Request) (more : List (List ℕ)) → Does request strings s t more
      → HasEffect c strings s t more
  effect (Begin kind width place operand expected) more h = inl (
    ⊎_elim
        (λ does. record {
          first = does.4.0;
          chain = begun c s.lent strings s.site t.site kept.own (sound_held s kept.sound)
              (after (begun_config does.0 does.2 s.site t.site does.4.1)) does.0 does.2 does.4.1
              (may_be does.0 does.6);
        })
        (λ refused. unchanged refused.1) h.1.3,
    h.0,
  )
  effect Reply more h = inl (
    ⊎_elim
        (λ does. record {
          first = does.2.0;
          chain = polled c s.lent strings s.site t.site kept.own (sound_held s kept.sound)
              (after (asked_config does.0 s.site t.site does.2.1)) before does.0 does.2.1;
        })
        (λ refused. unchanged refused.1) h.1.3,
    h.0,
  )
  effect (LoadBlock addr) more h = inl (
    ⊎_elim
        (λ does. record {
          first = does.3.0;
          chain = answered c s.lent strings (row Loads s.site.me addr (numbers_in h.1.1 h.1.2)) s.site
              t.site does.3.1 kept.own (sound_held s kept.sound) before
              (loads_quiet c s.lent s.site.me addr (numbers_in h.1.1 h.1.2));
        })
        (λ none. absurd none.0) h.1.3,
    h.0,
  )
  effect (StoreBlock addr bytes) more h = inl (
    ⊎_elim
        (λ does. record {
          first = does.3.0;
          chain = answered c s.lent strings (row Stores s.site.me addr (numbers_in h.1.1 bytes)) s.site
              t.site does.3.1 kept.own (sound_held s kept.sound) before
              (stores_quiet c s.lent s.site.me addr (numbers_in h.1.1 bytes)
              (λ k low.
              subst (λ x. lending_asked s.lent (asked_of x (Load 8 (addr + 8 * k))) ≢ ToRead) kept.config
              (h.1.3 does.0 k (subst (λ n. k < n) (length-numbers_in h.1.1 bytes) low))));
        })
        (λ refused. unchanged refused.1) h.1.2,
    h.0,
  )
  effect (BeginLoadBlock addr bytes) more h = inl (
    ⊎_elim
        (λ does. record {
          first = does.2.0;
          chain = begun_row (calls_of (row Loads 0 addr (numbers_in h.1.1 bytes))) does.2.1;
        })
        (λ refused. unchanged refused.1) h.1.2,
    h.0,
  )
  effect (BeginStoreBlock addr bytes) more h = inl (
    ⊎_elim
        (λ does. record {
          first = does.2.0;
          chain = begun_row (calls_of (row Stores 0 addr (numbers_in h.1.1 bytes))) does.2.1;
        })
        (λ refused. unchanged refused.1) h.1.2,
    h.0,
  )
  effect (TakeLoadBlock addr) more h = inl (
    ⊎_elim
        (λ does. record {
          first = does.4.0;
          chain = taken c s.lent strings (row Loads s.site.me addr (numbers_in h.1.1 h.1.2)) s.site t.site
              does.4.1 kept.own (sound_held s kept.sound) before;
        })
        (λ none. absurd none.0) h.1.3,
    h.0,
  )
  effect (TakeStoreBlock addr bytes) more h = inl (
    ⊎_elim
        (λ does. record {
          first = does.4.0;
          chain = taken c s.lent strings (row Stores s.site.me addr (numbers_in h.1.1 bytes)) s.site t.site
              does.4.1 kept.own (sound_held s kept.sound) before;
        })
        (λ none. absurd none.0) h.1.2,
    h.0,
  )
  effect (Fetch page number) more h = inl (
    ⊎_elim (λ does. fetched_ahead page does.1 does.3 does.5) (λ refused. unchanged refused.1) h.1.2,
    h.0,
  )
  effect (Deliver bytes) more h = inl (
    ⊎_elim
        (λ does. record {
          first = does.3.0;
          chain = delivered c s.lent strings s.site t.site kept.own (sound_held s kept.sound)
              (after (delivery_program bytes does.1 s.site t.site limits_here does.3.1).config)
              limits_here bytes does.1 h.1 does.3.1;
        })
        (λ refused. unchanged refused.1) h.2.2,
    h.0,
  )
  effect NextFrame more h = inr (record {
    status = h.0;
    len = h.1;
    dest = h.2;
    buffer = h.3;
    takes = h.4;
    out = h.5;
  })
  effect (Pulse to) more h = inl (
    ⊎_elim
        (λ does. record {
          first = does.3.0;
          chain = pulsed c s.lent strings s.site t.site kept.own (sound_held s kept.sound)
              (after (ap (λ (x : SiteView). x.config) does.3.1)) limits_here to does.1 does.2 does.3.1;
        })
        (λ refused. unchanged refused.1) h.1.1,
    h.0,
  )

-- what stays through acts, and what extends a program before them

module _ (c : Config) (lent : List Mark) (strings : List (List ℕ)) where
  pub chain_config : (acts : List Act) (a b : SiteView) → IsConfig a.config
      → AllAct c lent strings acts a b → b.config ≡ a.config
  chain_config [] a b limits same = ap (λ (s : SiteView). s.config) same
  chain_config (x ∷ xs) a b limits h =
      let first = acts_config x a h.0 limits h.1 in
      chain_config xs h.0 b (subst IsConfig (sym first) limits) h.4 ∙ first

  pub chain_own : (acts : List Act) (a b : SiteView) → IsConfig a.config
      → AllAct c lent strings acts a b → IsOwn (core_of a) → IsOwn (core_of b)
  chain_own [] a b limits same own = subst (λ (s : SiteView). IsOwn (core_of s)) (sym same) own
  chain_own (x ∷ xs) a b limits h own =
      let first = acts_config x a h.0 limits h.1 in
      chain_own xs h.0 b (subst IsConfig (sym first) limits) h.4 (own_on x a h.0 limits h.1 own)

  pub chain_extends : (p : Program) (acts : List Act)
      (a b : SiteView) → IsConfig a.config → AllAct c lent strings acts a b → Extends p b
      → Extends p a
  chain_extends p [] a b limits same e = subst (Extends p) same e
  chain_extends p (x ∷ xs) a b limits h e =
      let first = acts_config x a h.0 limits h.1 in
      extends_back p x a h.0 limits h.1
      (chain_extends p xs h.0 b (subst IsConfig (sym first) limits) h.4 e)
