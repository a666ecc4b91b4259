-- Each event keeps what holds of what a node lends.
use Rattle.std.proofs.Common.{◌≡◌, ◌≢◌, inl, inr, ℕ, zero, suc, ◌<◌, true, List, [], ◌∷◌, append-nil, length, replicate, set, slice_get, Option, Some, None, refl, sym, ap, ◌∙◌, subst, arith}
use Rattle.std.proofs.lemmas.Bool.{cases_Bool}
use Rattle.std.proofs.lemmas.Bool.Decides.{eqb_tells}
use Rattle.std.proofs.lemmas.List.{get_or-set_other, get_or-set_same, length-replicate, length-set}
use Rattle.std.proofs.lemmas.Option.{none-some, slice_get_past}
use Rattle.ivy_model.specs.declared.Call.{Call}
use Rattle.ivy_model.specs.declared.Config.{Config}
use Rattle.ivy_model.specs.declared.Record.{Record}
use Rattle.ivy_model.specs.declared.Reply.{Reply}
use Rattle.ivy_model.specs.stated.Config.{IsConfig}
use Rattle.ivy_model.specs.stated.Legal.{HasWidth}
use Rattle.ivy_pagetable.specs.declared.Access.{Access}
use Rattle.ivy_pagetable.specs.declared.Access.TheVariants.{Nil, Read, Write}
use Rattle.ivy_pagetable.specs.declared.Word.{Word}
use Rattle.ivy_pagetable.specs.stated.Accesses.{reads, writes}
use Rattle.ivy_pagetable.specs.stated.Tables.{entry_at}
use Rattle.ivy_coherence.specs.Leavings.{access_at}
use Rattle.ivy_memory.specs.declared.memory.Asked.{Asked}
use Rattle.ivy_memory.specs.declared.memory.Asked.TheVariants as asked
use Rattle.ivy_memory.specs.stated.Asking.{asked_of}
use Rattle.ivy_memory.specs.stated.Sound.{IsSoundMemory}
use Rattle.ivy_program.specs.OwnCode.{IsFree}
use Rattle.ivy_program.specs.stated.Programs.{Called}
use Rattle.ivy_moves.specs.declared.Keep.TheVariants.{Nothing}
use Rattle.ivy_host.specs.stated.Managers.{managed_ops}
use Rattle.ivy_host.proofs.WellBehaved.{IsAskingHost}
use Rattle.ivy_site.specs.Calls.{AreAnswered, AreTaken, BeginsTogether}
use Rattle.ivy_site.specs.Handed.{site_handed}
use Rattle.ivy_site.specs.SiteView.{SiteView}
use Rattle.ivy_site.specs.Inside.{Holds, Receives}
use Rattle.ivy_host.specs.declared.opening.Opening.{Opening}
use Rattle.ivy_site.specs.Sites.{AreUsed, GoesOnOnce, IsSite, SiteDelivers, first_opened, without_ready}
use Rattle.ivy_wire.specs.stated.Data.{Frame}
use Rattle.ivy_link.specs.declared.Verdict.{Verdict}
use Rattle.ivy_link.specs.declared.Verdict.TheVariants as verdict
use Rattle.ivy_embedded.specs.declared.lending.Lending.{Lending}
use Rattle.ivy_embedded.specs.declared.lending.Lending.TheVariants.{Unlent, ToRead, ToWrite}
use Rattle.ivy_embedded.specs.declared.lending.Want.{Want}
use Rattle.ivy_embedded.specs.Calls.{IsLender}
use Rattle.ivy_embedded.specs.Exports.{AfterBegin, AfterCall}
use Rattle.ivy_embedded.specs.Lending.{HasUnanswered, IsWanted, LendsSoundly, is_had, is_more, left_for, lending_in, may_ask, page_asked, permits}
use Rattle.ivy_embedded.specs.Nodes.{Embedded}
use Rattle.ivy_embedded.proofs.Delivering.{IsSameProgram, TakesNone, delivers_held, delivers_program}
use Rattle.ivy_embedded.proofs.Going.{GoesOn, IsOwn, IsSettled, answered_config, answered_settled, asked_config, asked_on, begun_config, begun_none, begun_some, core_of, handed_own, may_wait, taken_config, taken_on, turned_config, turned_on}
use Rattle.ivy_embedded.proofs.Holding.{had_unlent}
use Rattle.ivy_embedded.proofs.RowCalls.{IsWordOf}
use Rattle.ivy_embedded.proofs.Unanswered.{free_answered, handed_or}

-- so the pages of a node are lent
pub soundly : (s : Embedded) (page : ℕ) → IsLender s.site s.lent page → LendsSoundly s
soundly s page l = record { each = l.each; first = l.first; had = l.had; calls = l.calls }

-- what is known of each site
pub record IsKnown (s : SiteView) : Type 0 where
  pub config : (core_of s).memory.coherence.config ≡ s.config
  pub asking : IsAskingHost (core_of s)
  pub fetched : AreUsed (core_of s)
  pub limits : IsConfig s.config
  pub entries : length (core_of s).memory.coherence.table.entries ≡ s.config.pages

pub known : (s : SiteView) → IsSite s → IsSoundMemory managed_ops (core_of s).memory → IsKnown s
known s site memory = record {
  config = site.config;
  asking = site.asking;
  fetched = site.fetched;
  limits = subst IsConfig site.config memory.coherent.limits;
  entries = memory.coherent.entries ∙ ap (λ (c : Config). c.pages) site.config;
}

module _ (old : SiteView) (lent : List Lending) (page : ℕ) (l : IsLender old lent page)
    (k : IsKnown old) where
  own : IsOwn (core_of old)
  own = record { called = l.own; asking = k.asking; fetched = k.fetched }

  pub settled : IsFree (core_of old).process → IsSettled lent old
  settled free = record {
    own = own;
    none = free_answered (core_of old).process free l.wide;
    held = l.had;
  }

  -- each call has its reply
  by_settled : (new : SiteView) → new.config ≡ old.config → IsSettled lent new → (at : ℕ)
      → IsLender new lent at
  by_settled new same s at = record {
    each = l.each ∙ ap (λ (c : Config). c.pages) (sym same);
    first = l.first;
    had = s.held;
    own = s.own.called;
    calls = λ call h. absurd (s.none call h);
    wide = λ call h. absurd (s.none call h);
    at = λ call h. absurd (s.none call h);
  }

  -- the calls without a reply had none before
  by_going : (new : SiteView) → new.config ≡ old.config → GoesOn lent old new
      → IsLender new lent page
  by_going new same g = record {
    each = l.each ∙ ap (λ (c : Config). c.pages) (sym same);
    first = l.first;
    had = g.held;
    own = g.own.called;
    calls = λ call h. ap (λ c. may_ask lent (asked_of c call)) same ∙ l.calls call (g.less call h);
    wide = λ call h. l.wide call (g.less call h);
    at = λ call h.
        ap (λ c. page_asked (asked_of c call)) same ∙ l.at call (g.less call h);
  }

  pub answered_lender : (rs : List Record) (new : SiteView) → IsFree (core_of old).process
      → AreAnswered rs old new → IsLender new lent page
  answered_lender rs new free a =
      by_settled new (answered_config rs old new a) (answered_settled lent rs old new a (settled free)) page

  pub taken_lender : (rs : List Record) (new : SiteView) → AreTaken rs old new
      → IsLender new lent page
  taken_lender rs new a = by_going new (taken_config rs old new a) (taken_on lent rs old new a own l.had)

  pub polled_lender : (progress : Option Reply) (new : SiteView) → AfterCall progress old new
      → IsLender new lent page
  polled_lender progress new a =
      by_going new (asked_config progress old new a) (asked_on lent progress old new a own l.had k.config l.calls)

  pub begun_some_lender : (call : Call) (reply : Reply) (new : SiteView)
      → IsFree (core_of old).process → AfterBegin call (Some reply) old new
      → IsLender new lent page
  begun_some_lender call reply new free a =
      by_settled new (begun_config call (Some reply) old new a) (begun_some lent call reply old new a (settled free)) page

  pub begun_none_lender : (call : Call) (new : SiteView) → IsFree (core_of old).process
      → HasWidth call → may_ask lent (asked_of old.config call) ≡ true
      → AfterBegin call None old new → (at : ℕ) → at ≡ page_asked (asked_of new.config call)
      → IsLender new lent at
  begun_none_lender call new free wide may a at is =
      let same = begun_config call None old new a in
      let b = begun_none lent call old new a (settled free) k.config may in record {
        each = l.each ∙ ap (λ (c : Config). c.pages) (sym same);
        first = l.first;
        had = b.held;
        own = b.own.called;
        calls = λ other h.
            ap (λ c. may_ask lent (asked_of c other)) same
            ∙ (ap (λ k. may_ask lent (asked_of old.config k)) (b.only other h) ∙ may);
        wide = λ other h. subst HasWidth (sym (b.only other h)) wide;
        at = λ other h.
            ap (λ k. page_asked (asked_of new.config k)) (b.only other h) ∙ sym is;
      }

  -- calls of one page that is not lent are made together
  pub together_lender : (calls : List Call) (at : ℕ) (new : SiteView) → IsFree (core_of old).process
      → lending_in lent at ≡ Unlent
      → ((k : ℕ) (call : Call) → slice_get calls k ≡ Some call
      → IsWordOf old.config at call × HasWidth call)
      → BeginsTogether calls old new → IsLender new lent at
  together_lender calls at new free unlent words b =
      let same = turned_config (site_handed (calls ∷ []) old) new b.turns in
      let s = settled free in
      let made = handed_own old (calls ∷ []) s.own s.none in
      let of : (call : Call) → HasUnanswered (core_of (site_handed (calls ∷ []) old)).process call
      → IsWordOf old.config at call × HasWidth call =
      (λ call h. elim (handed_or (calls ∷ []) (core_of old).process call h) [
        | inl before ↦ absurd (s.none call before)
        | inr there ↦ words there.0 call
            (ap (λ cs. slice_get cs there.0) (sym (append-nil calls)) ∙ there.1)
      ]) in
      let may : (call : Call) → HasUnanswered (core_of (site_handed (calls ∷ []) old)).process call
      → may_ask lent (asked_of old.config call) ≡ true =
      (λ call h. ap (may_ask lent) (of call h).0.1 ∙ ap (λ x. permits x (of call h).0.0) unlent) in
      let g = turned_on lent (site_handed (calls ∷ []) old) new b.turns made l.had
      (may_wait lent (site_handed (calls ∷ []) old) (core_of new) made k.config may) in
      record {
        each = l.each ∙ ap (λ (c : Config). c.pages) (sym same);
        first = l.first;
        had = g.held;
        own = g.own.called;
        calls = λ call h.
            ap (λ c. may_ask lent (asked_of c call)) same ∙ may call (g.less call h);
        wide = λ call h. (of call (g.less call h)).1;
        at = λ call h.
            ap (λ c. page_asked (asked_of c call)) same
            ∙ ap page_asked (of call (g.less call h)).0.1;
      }

  -- the program is as it was, and what is lent is had
  pub by_program : (new : SiteView) → IsSameProgram old new
      → ((p : ℕ) → is_had (access_at (entry_at (core_of new).memory.coherence.table p))
      (lending_in lent p) ≡ true)
      → IsLender new lent page
  by_program new same had =
      let less : (call : Call) → HasUnanswered (core_of new).process call
      → HasUnanswered (core_of old).process call =
      (λ call h. subst (λ p. HasUnanswered p call) same.process h) in
      record {
        each = l.each ∙ ap (λ (c : Config). c.pages) (sym same.config);
        first = l.first;
        had = had;
        own = rw same.process l.own;
        calls = λ call h.
            ap (λ c. may_ask lent (asked_of c call)) same.config ∙ l.calls call (less call h);
        wide = λ call h. l.wide call (less call h);
        at = λ call h.
            ap (λ c. page_asked (asked_of c call)) same.config ∙ l.at call (less call h);
      }

  entries_long : length lent ≡ length (core_of old).memory.coherence.table.entries
  entries_long = l.each ∙ sym k.entries

  -- one string that takes nothing that is lent
  pub delivers_lender : (bytes : List ℕ) (v : Verdict) (new : SiteView)
      → SiteDelivers bytes v old new → TakesNone lent old bytes → IsLender new lent page
  delivers_lender bytes v new d none =
      by_program new (delivers_program bytes v old new k.limits d)
      (delivers_held lent bytes v old new k.limits entries_long d l.had none)

-- only strings that wait, or are held, changed
pub other_strings : (old new : SiteView) (lent : List Lending) (page : ℕ) → new.node.core ≡ old.node.core
    → new.config ≡ old.config → IsLender old lent page → IsLender new lent page
other_strings old new lent page core config l = record {
  each = l.each ∙ ap (λ (c : Config). c.pages) (sym config);
  first = l.first;
  had = rw core l.had;
  own = rw core l.own;
  calls = rw (core, config) l.calls;
  wide = rw core l.wide;
  at = rw (core, config) l.at;
}

-- a string that is not wanted takes nothing that is lent
pub not_wanted : (e : Embedded) (bytes : List ℕ) → ((want : Want) → IsWanted e bytes want → ⊥)
    → TakesNone e.lent e.site bytes
not_wanted e bytes none l leaves =
    elim (cases_Bool (is_more (lending_in e.lent l.page) (left_for l.access))) [
      | inl more ↦ absurd (none (record { page = l.page; on = left_for l.access }) (record {
        left = l;
        leaves = leaves;
        page = refl;
        on = refl;
        more = more;
      }))
      | inr enough ↦ enough
    ]

held_config : (v : Verdict) (f : Frame) (bytes : List ℕ) (mid new : SiteView) → Holds v f bytes mid new
    → (new.node.core ≡ mid.node.core) × (new.config ≡ mid.config)
held_config verdict.NotMine f bytes mid new same = rw same (refl, refl)
held_config verdict.Next f bytes mid new same = rw same (refl, refl)
held_config verdict.Repeat f bytes mid new same = rw same (refl, refl)
held_config verdict.Ahead f bytes mid new same = rw same (refl, refl)

-- a string that is received, and held where it came too early
pub received_lender : (old new : SiteView) (lent : List Lending) (page : ℕ) (bytes : List ℕ)
    (v : Verdict) (from : ℕ) → IsLender old lent page → IsKnown old → TakesNone lent old bytes
    → Receives bytes v from old new → IsLender new lent page
received_lender old new lent page bytes v from l k none r =
    let held = held_config v r.first.frame bytes r.mid new r.holds in
    other_strings r.mid new lent page held.0 held.1
    (delivers_lender old lent page l k bytes v r.mid r.first none)

-- a string that was held is delivered
pub gone_lender : (old new : SiteView) (lent : List Lending) (page : ℕ) (from : ℕ) (bytes : List ℕ)
    → IsLender old lent page → IsKnown old → TakesNone lent old bytes
    → GoesOnOnce from bytes old new → IsLender new lent page
gone_lender old new lent page from bytes l k none g =
    delivers_lender (without_ready old from) lent page
    (other_strings old (without_ready old from) lent page refl refl l)
    (record {
      config = k.config;
      asking = k.asking;
      fetched = k.fetched;
      limits = k.limits;
      entries = k.entries;
    }) bytes
    verdict.Next new g.next
    (λ left leaves. none left (record {
      frame = leaves.frame;
      spelled = leaves.spelled;
      next = leaves.next;
      message = leaves.message;
      body = leaves.body;
      left = leaves.left;
    }))

-- a node as it begins
pub first_lender : (o : Opening) (c : Config) (me : ℕ) (s : SiteView) (lent : List Lending)
    → s ≡ first_opened o Nothing c me (Called [] []) → lent ≡ replicate c.pages Unlent
    → IsLender s lent 0
first_lender o c me s lent at none =
    rw (at, none) (record {
      each = length-replicate c.pages Unlent;
      first = unlent c.pages 0;
      had = λ p. had_unlent _ _ (unlent c.pages p);
      own = tt;
      calls = λ call h. absurd (nothing call h);
      wide = λ call h. absurd (nothing call h);
      at = λ call h. absurd (nothing call h);
    })
  where
    unlent : (n p : ℕ) → lending_in (replicate n Unlent) p ≡ Unlent
    unlent zero p = refl
    unlent (suc n) zero = refl
    unlent (suc n) (suc p) = unlent n p

    nothing : (call : Call)
        → HasUnanswered (core_of (first_opened o Nothing c me (Called [] []))).process call → ⊥
    nothing call h = none-some call (sym (slice_get_past List.[] h.place (omega arith)) ∙ h.made)

-- more, or less, is lent
module _ (s : SiteView) (lent : List Lending) (at page : ℕ) (l : IsLender s lent at)
    (inside : page < length lent) (above : 0 < page) where
  other_lent : (to : Lending) (p : ℕ) → p ≢ page → lending_in (set lent page to) p ≡ lending_in lent p
  other_lent to p apart = get_or-set_other lent page p to Unlent apart

  same_lent : (to : Lending) → lending_in (set lent page to) page ≡ to
  same_lent to = get_or-set_same lent page to Unlent inside

  had_set : (to : Lending) → is_had (access_at (entry_at (core_of s).memory.coherence.table page)) to ≡ true
      → (p : ℕ) → is_had (access_at (entry_at (core_of s).memory.coherence.table p))
      (lending_in (set lent page to) p) ≡ true
  had_set to had p = elim (eqb_tells p page) [
    | inl y ↦ rw (y.1, same_lent to) had
    | inr y ↦ rw (other_lent to p y.1) (l.had p)
  ]

  -- a call that was so may be one still
  call_set : (to : Lending) (a : Asked) → (page_asked a ≡ page → (w : Word) → permits (lending_in lent page) w ≡ true → permits to w ≡ true)
      → may_ask lent a ≡ true → may_ask (set lent page to) a ≡ true
  call_set to (asked.Refused code) less may = refl
  call_set to (asked.Heap k) less may = refl
  call_set to (asked.Word p w) less may = elim (eqb_tells p page) [
    | inl y ↦ rw (y.1, same_lent to) (less y.1 w (rw (← y.1) may))
    | inr y ↦ rw (other_lent to p y.1) may
  ]

  by_set : (to : Lending) → is_had (access_at (entry_at (core_of s).memory.coherence.table page)) to ≡ true
      → ((call : Call) → HasUnanswered (core_of s).process call → page_asked (asked_of s.config call) ≡ page
      → (w : Word) → permits (lending_in lent page) w ≡ true → permits to w ≡ true)
      → IsLender s (set lent page to) at
  by_set to had less = record {
    each = length-set lent page to ∙ l.each;
    first = other_lent to 0 (λ e. absurd (omega (arith, e, above))) ∙ l.first;
    had = had_set to had;
    own = l.own;
    calls = λ call h. call_set to (asked_of s.config call) (less call h) (l.calls call h);
    wide = l.wide;
    at = l.at;
  }

  -- a page for which no call waits is lent
  pub lent_lender : (to : Lending)
      → is_had (access_at (entry_at (core_of s).memory.coherence.table page)) to ≡ true
      → ((call : Call) → HasUnanswered (core_of s).process call
      → page_asked (asked_of s.config call) ≡ page → ⊥)
      → IsLender s (set lent page to) at
  lent_lender to had free = by_set to had (λ call h of. absurd (free call h of))

  less_permits : (to : Lending) (w : Word) → is_more (lending_in lent page) to ≡ true
      → permits (lending_in lent page) w ≡ true → permits to w ≡ true
  less_permits to w more may = by (lending_in lent page) to more may
    where
      by : (was now : Lending) → is_more was now ≡ true → permits was w ≡ true
          → permits now w ≡ true
      by Unlent now more may = absurd cc
      by ToRead Unlent more may = refl
      by ToRead ToRead more may = absurd cc
      by ToRead ToWrite more may = absurd cc
      by ToWrite now more may = absurd cc

  less_had : (to : Lending) → is_more (lending_in lent page) to ≡ true
      → is_had (access_at (entry_at (core_of s).memory.coherence.table page)) to ≡ true
  less_had to more =
      by (access_at (entry_at (core_of s).memory.coherence.table page)) (lending_in lent page) to more (l.had page)
    where
      writes_read : (access : Access) → writes access ≡ true → reads access ≡ true
      writes_read Nil h = absurd cc
      writes_read Read h = absurd cc
      writes_read Write h = refl

      by : (o : Option Access) (was now : Lending) → is_more was now ≡ true → is_had o was ≡ true
          → is_had o now ≡ true
      by o was Unlent more had = had_unlent o Unlent refl
      by o Unlent ToRead more had = absurd cc
      by o ToRead ToRead more had = absurd cc
      by None ToWrite ToRead more had = absurd cc
      by (Some access) ToWrite ToRead more had = writes_read access had
      by o Unlent ToWrite more had = absurd cc
      by o ToRead ToWrite more had = absurd cc
      by o ToWrite ToWrite more had = absurd cc

  -- it is given back, but for less
  pub given_lender : (to : Lending) → is_more (lending_in lent page) to ≡ true
      → IsLender s (set lent page to) at
  given_lender to more =
      by_set to (less_had to more) (λ call h of w may. less_permits to w more may)
