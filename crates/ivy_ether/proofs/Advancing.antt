-- What a step leaves by which one node goes on, or has something handed to it.
use Rattle.std.proofs.Common.{◌≡◌, ◌≢◌, ◌⊎◌, inl, inr, ℕ, ◌+◌, ◌<◌, ◌≤◌, ◌==◌, Bool}
use Rattle.std.proofs.Common.{true, false, true≢false, Option, Some, List, [], ◌∷◌, ◌++◌}
use Rattle.std.proofs.Common.{length, set, slice_get, Contains, refl, sym, ap, ◌∙◌, subst, arith}
use Rattle.std.proofs.Common.{if◌then◌else◌, eq-eqb}
use mathlib.Core.Option.{some, some-injective}
use lib.ListN.{get_elem?}
use Rattle.std.proofs.lemmas.Bool.{cases_eq, ne_eqb}
use Rattle.std.proofs.lemmas.Option.{same_Some, slice_get_cases, slice_get_past}
use Rattle.std.proofs.lemmas.List.Elements.{Contains-append_right}
use Rattle.crossbeam_queue.proofs.Lists.{at_set, set_here, set_else}
use Rattle.ivy_model.specs.declared.Config.{Config}
use Rattle.ivy_moves.specs.Carrying.{node_changed}
use Rattle.ivy_moves.specs.stated.Cores.{Core}
use Rattle.ivy_moves.specs.Marks.{Mark}
use Rattle.ivy_moves.specs.stated.Nodes.{Effect}
use Rattle.ivy_moves.specs.Parts.{AllCanBeMade}
use Rattle.ivy_moves.specs.stated.Worlds.{World}
use Rattle.ivy_moves.proofs.Splitting.{can-more}
use Rattle.ivy_ether.specs.Data.{Item}
use Rattle.ivy_ether.specs.declared.item.Item.TheVariants.{Seat, Frame, Report}
use Rattle.ivy_ether.specs.Handings.{Handing}
use Rattle.ivy_ether.specs.Views.{Closing, View}
use Rattle.ivy_ether.specs.Going.{IsListOf, ListGoesOn, Sends, AreFurther}
use Rattle.ivy_ether.specs.Rule.{total, one_if, is_number, sits, Reported}
use Rattle.ivy_ether.specs.Rule.{IsStart, AreRunParts, IsNode, FitsRun, FitsItem, RuleHolds}
use Rattle.ivy_ether.specs.Rule.{RuleAllows}
use Rattle.ivy_ether.proofs.Further.{lists_go_on}
use Rattle.ivy_ether.proofs.ListTotals.{total_set, total_one, total_two, total_in, in_list}

-- what holds of each view after one changed
pub fits_set : (F : ℕ → View → Type 0) (views : List View) (p : ℕ) (w : View)
    → ((q : ℕ) (u : View) → q ≢ p → get_elem? views q ≡ some u → F q u) → F p w
    → (q : ℕ) (u : View) → get_elem? (set views p w) q ≡ some u → F q u
fits_set F views p w others mine q u e = elim (at_set views p q w u e) [
  | inl x ↦ subst (λ (y : ℕ × View). F y.0 y.1) (λ i. (sym x.0 i, x.1 i)) mine
  | inr x ↦ others q u x.0 x.1
]

same_at : (views : List View) (p q : ℕ) (v u : View) → q ≡ p → get_elem? views p ≡ some v
    → get_elem? views q ≡ some u → v ≡ u
same_at views p q v u e at at' =
    some-injective v u (sym at ∙ ap (λ k. get_elem? views k) (sym e) ∙ at')

-- a view that reported stays so
pub reported_set : (views : List View) (p : ℕ) (v w : View) (j : ℕ) (l : List Mark)
    → get_elem? views p ≡ some v
    → (v.node ≡ Some j → v.reported ≡ true → v.events ≡ l
    → (w.node ≡ Some j) × (w.reported ≡ true) × (w.events ≡ l))
    → Reported views j l → Reported (set views p w) j l
reported_set views p v w j l at stays r = elim (cases_eq r.pass p) [
  | inl e ↦
      let same : v ≡ r.view = same_at views p r.pass v r.view e at r.there in
      let s = stays (ap (λ (x : View). x.node) same ∙ r.node)
      (ap (λ (x : View). x.reported) same ∙ r.reported)
      (ap (λ (x : View). x.events) same ∙ r.events) in
      record {
        pass = p;
        view = w;
        there = set_here views p w (in_list views p v at);
        node = s.0;
        reported = s.1;
        events = s.2;
      }
  | inr n ↦ record {
    pass = r.pass;
    view = r.view;
    there = set_else views p r.pass w n ∙ r.there;
    node = r.node;
    reported = r.reported;
    events = r.events;
  }
]

pub contains_next : (x : Item) (items : List Item) (y : Item) → Contains items y
    → Contains (x ∷ items) y
contains_next x items y c = Contains-append_right (x ∷ []) items y c

pub contains_first : {X : Type 0} (x : X) (items : List X) → Contains (x ∷ items) x
contains_first x items = (0, omega arith, refl)

-- a pass that sits at a node, and one that took in the pass of that node
number_here : (i : ℕ) (o : Option ℕ) → o ≡ Some i → is_number i o ≡ 1
number_here i o e = ap (is_number i) e ∙ ap one_if (eq-eqb i i refl)

-- so many of the passes that it took in sat at node i
abbrev pub closed_at : ℕ → View → ℕ
closed_at i v = total (λ (x : Closing). one_if (x.node == i)) v.closed

closed_here : (i : ℕ) (v : View) (x : Closing) → Contains v.closed x → i ≡ x.node
    → 1 ≤ closed_at i v
closed_here i v x contained same =
    let t = total_in (λ (y : Closing). one_if (y.node == i)) v.closed x contained in
    let b : one_if (x.node == i) ≡ 1 = ap one_if (eq-eqb x.node i (sym same)) in omega arith

-- what a pass knows after a step with a list
abbrev pub gave : View → List Handing → List Mark → List (List ℕ) → List (List ℕ) → List Item → Bool
    → View
gave v handings es took put items rep = record v {
  handed = handings;
  events = es;
  took = took;
  put = put;
  items = items;
  reported = rep;
}

-- the lists with this one for node i
abbrev pub with_list : (ℕ → List Mark) → ℕ → List Mark → ℕ → List Mark
with_list parts i es j = if i == j then es else parts j

pub list_here : (parts : ℕ → List Mark) (i j : ℕ) (es : List Mark) → i ≡ j → with_list parts i es j ≡ es
list_here parts i j es same = ap (λ b. if b then es else parts j) (eq-eqb i j same)

pub list_else : (parts : ℕ → List Mark) (i j : ℕ) (es : List Mark) → i ≢ j
    → with_list parts i es j ≡ parts j
list_else parts i j es apart = ap (λ b. if b then es else parts j) (ne_eqb i j apart)

module _ {C : Type 0} (rules : Core C) (c : Config) (opening : World C)
    (hand : List Handing → C → C) where
  pub item_stays : (end end' : World C) (views views' : List View)
      → ((s : List ℕ) → Contains end.sent s → Contains end'.sent s)
      → ((j : ℕ) (l : List Mark) → Reported views j l → Reported views' j l) → (x : Item)
      → FitsItem rules c opening hand end views x → FitsItem rules c opening hand end' views' x
  item_stays end end' views views' more stays (Seat i) h = h
  item_stays end end' views views' more stays (Frame b) h = more b h
  item_stays end end' views views' more stays (Report i es) h = stays i es.marks h

  -- a node to which the same was handed begins as the same
  pub same_start : (handings handings' : ℕ → List Handing) (start start' : World C) (i : ℕ)
      → IsStart rules c opening hand handings start → IsStart rules c opening hand handings' start'
      → handings i ≡ handings' i → slice_get start.nodes i ≡ slice_get start'.nodes i
  same_start handings handings' start start' i is is' same = elim (slice_get_cases opening.nodes i).1 [
    | inl x ↦
        is.there i x.0 x.2 ∙ ap (λ k. Some (node_changed (hand k) x.0)) same
        ∙ sym (is'.there i x.0 x.2)
    | inr x ↦
        let past = x.0 in
        let count = is.count in
        let count' = is'.count in
        slice_get_past start.nodes i (omega (arith, past, count))
        ∙ sym (slice_get_past start'.nodes i (omega (arith, past, count')))
  ]

  -- its lists are the same
  pub list_over : (start start' : World C) (i : ℕ) (es : List Mark) (e : Effect C)
      → slice_get start.nodes i ≡ slice_get start'.nodes i → IsListOf rules c start i es e
      → IsListOf rules c start' i es e
  list_over start start' i es e same l =
      record { node = l.node; there = sym same ∙ l.there; happen = l.happen }

  -- a run in which node i alone went on, or had something handed to it
  pub record Goes (handings handings' : ℕ → List Handing) (parts parts' : ℕ → List Mark) (old : World C)
      (i : ℕ) : Type 0 where
    pub end : World C
    pub run : AreRunParts rules c opening hand handings' parts' end
    pub more : (s : List ℕ) → Contains old.sent s → Contains end.sent s
    pub others : (j : ℕ) → i ≢ j → (parts' j ≡ parts j) × (handings' j ≡ handings j)

  -- what this leaves of all views, where pass p sits at the node and knows w now
  pub record Advanced (views : List View) (starter : ℕ) (issued : List ℕ) (handings : ℕ → List Handing)
      (parts : ℕ → List Mark) (end : World C) (p : ℕ) (w : View) : Type 0 where
    pub seats : (j : ℕ) → total (sits j) (set views p w) ≡ total (sits j) views
    pub fresh : (j : ℕ) → total (sits j) (set views p w) ≡ 0 → (parts j ≡ []) × (handings j ≡ [])
    pub stays : (j : ℕ) (l : List Mark) → Reported views j l → Reported (set views p w) j l
    pub fits : (q : ℕ) (u : View) → get_elem? (set views p w) q ≡ some u
        → FitsRun rules c opening hand starter issued handings parts end (set views p w) q u

  pub advanced : (items : List Item) (views : List View) (starter : ℕ) (issued : List ℕ)
      (parts : ℕ → List Mark) (end : World C) (p : ℕ) (v : View) (i : ℕ)
      (handings' : ℕ → List Handing) (parts' : ℕ → List Mark) (handed : List Handing) (es : List Mark)
      (took put : List (List ℕ)) (given : List Item) (rep : Bool)
      (k : RuleHolds rules c opening hand items views starter issued parts end)
      (at : get_elem? views p ≡ some v) → v.node ≡ Some i → v.reported ≡ false
      → (on : Goes k.handings handings' parts parts' end i) → parts' i ≡ es → handings' i ≡ handed
      → ((s : List ℕ) → Contains took s → Contains on.end.sent s)
      → Advanced views starter issued handings' parts' on.end p (gave v handed es took put given rep)
  advanced items views starter issued parts end p v i handings' parts' handed es took put given rep k at
      sitting unreported on part own took_sent =
      record {
        seats = seats_;
        fresh = λ j none.
            let f = k.fresh j (sym (seats_ j) ∙ none) in
            let o = on.others j (apart_from j none) in (o.0 ∙ f.0, o.1 ∙ f.1);
        stays = stays_;
        fits = fits_set
            (λ q u. FitsRun rules c opening hand starter issued handings' parts' on.end views' q u)
            views p w
            (λ q u n e. let f = k.fits q u e in record {
              starts = f.starts;
              sitting = λ j node. keep j u.handed u.events (others q u j n e node) (f.sitting j node);
              closed = λ x contained. keep x.node x.handed x.events (closed_else q u x n e contained)
                  (f.closed x contained);
              took = λ s contained. on.more s (f.took s contained);
              reports = λ j l contained. stays_ j l (f.reports j l contained);
            })
            record {
              starts = mine.starts;
              sitting = λ j node. subst (λ x. IsNode rules c opening hand handings' parts' x handed es)
                  (same_Some i j (sym sitting ∙ node))
                  record { inside = sit.inside; part = part; handed = own };
              closed = λ x contained. keep x.node x.handed x.events (closed_own x contained)
                  (mine.closed x contained);
              took = took_sent;
              reports = λ j l contained. stays_ j l (mine.reports j l contained);
            };
      }
    where
      w : View
      w = gave v handed es took put given rep

      views' : List View
      views' = set views p w

      mine : FitsRun rules c opening hand starter issued k.handings parts end views p v
      mine = k.fits p v at

      sit : IsNode rules c opening hand k.handings parts i v.handed v.events
      sit = mine.sitting i sitting

      keep : (j : ℕ) (h : List Handing) (l : List Mark) → i ≢ j
          → IsNode rules c opening hand k.handings parts j h l
          → IsNode rules c opening hand handings' parts' j h l
      keep j h l apart old =
          let o = on.others j apart in
          record { inside = old.inside; part = o.0 ∙ old.part; handed = o.1 ∙ old.handed }

      seats_ : (j : ℕ) → total (sits j) views' ≡ total (sits j) views
      seats_ j = let t = total_set (sits j) views p v w at in omega arith

      one_here : is_number i v.node ≡ 1
      one_here = number_here i v.node sitting

      apart_from : (j : ℕ) → total (sits j) views' ≡ 0 → i ≢ j
      apart_from j none e =
          let one = one_here in
          let le = total_one (sits i) views p v at in
          let z : total (sits i) views ≡ 0 =
          subst (λ (x : ℕ). total (sits x) views ≡ 0) (sym e) (sym (seats_ j) ∙ none) in
          omega arith

      others : (q : ℕ) (u : View) (j : ℕ) → q ≢ p → get_elem? views q ≡ some u → u.node ≡ Some j
          → i ≢ j
      others q u j n e node same =
          let a = one_here in
          let b = number_here i u.node (node ∙ ap Some (sym same)) in
          let two = total_two (sits i) views p q v u (λ x. n (sym x)) at e in
          let s = k.seats i in
          let o = k.once i in
          omega arith

      closed_else : (q : ℕ) (u : View) (x : Closing) → q ≢ p → get_elem? views q ≡ some u
          → Contains u.closed x → i ≢ x.node
      closed_else q u x n e contained same =
          let a = one_here in
          let b = closed_here i u x contained same in
          let two = total_two (sits i) views p q v u (λ y. n (sym y)) at e in
          let s = k.seats i in
          let o = k.once i in
          omega arith

      closed_own : (x : Closing) → Contains v.closed x → i ≢ x.node
      closed_own x contained same =
          let a = one_here in
          let b = closed_here i v x contained same in
          let le = total_one (sits i) views p v at in
          let s = k.seats i in
          let o = k.once i in
          omega arith

      stays_ : (j : ℕ) (l : List Mark) → Reported views j l → Reported views' j l
      stays_ j l = reported_set views p v w j l at
          (λ _ yes _. absurd (true≢false (sym yes ∙ unreported)))

  -- what a step with a list leaves
  pub record Stepped (views : List View) (starter : ℕ) (issued : List ℕ) (handings : ℕ → List Handing)
      (old : World C) (p : ℕ) (w : View) (i : ℕ) (at : World C) (es : List Mark) : Type 0 where
    pub parts : ℕ → List Mark
    pub end : World C
    pub run : AreRunParts rules c opening hand handings parts end
    pub more : (s : List ℕ) → Contains old.sent s → Contains end.sent s
    pub own : (s : List ℕ) → Sends rules c at i es s → Contains end.sent s
    pub on : Advanced views starter issued handings parts end p w

  pub advance : (items : List Item) (views : List View) (starter : ℕ) (issued : List ℕ)
      (parts : ℕ → List Mark) (end : World C) (p : ℕ) (v : View) (es : List Mark)
      (took put : List (List ℕ)) (given : List Item) (rep : Bool)
      (k : RuleHolds rules c opening hand items views starter issued parts end)
      (at : get_elem? views p ≡ some v) (may : RuleAllows rules c opening hand v es)
      → ((s : List ℕ) → Contains took s → Contains end.sent s)
      → Stepped views starter issued k.handings end p (gave v v.handed es took put given rep) may.node
      k.run.start es
  advance items views starter issued parts end p v es took put given rep k at may took_sent =
      record {
        parts = parts_;
        end = law.0;
        run = record { start = k.run.start; starts = k.run.starts; run = law.1.run };
        more = law.1.before;
        own = λ s sends. law.1.sent i s
            (subst (λ l. Sends rules c k.run.start i l s) (sym (list_here parts i i es refl)) sends);
        on = advanced items views starter issued parts end p v i k.handings parts_ v.handed es took put
            given rep k at may.sits may.unreported goes_on (list_here parts i i es refl) sit.handed
            (λ s contained. law.1.before s (took_sent s contained));
      }
    where
      i : ℕ
      i = may.node

      parts_ : ℕ → List Mark
      parts_ = with_list parts i es

      mine : FitsRun rules c opening hand starter issued k.handings parts end views p v
      mine = k.fits p v at

      sit : IsNode rules c opening hand k.handings parts i v.handed v.events
      sit = mine.sitting i may.sits

      same : slice_get may.at.start.nodes i ≡ slice_get k.run.start.nodes i
      same = same_start may.at.handings k.handings may.at.start k.run.start i may.at.starts k.run.starts
          (may.at.own ∙ sym sit.handed)

      count : length may.at.start.nodes ≡ length k.run.start.nodes
      count = may.at.starts.count ∙ sym k.run.starts.count

      goes : ListGoesOn rules c k.run.start i (parts i) end.sent es
      goes =
          let on = may.goes_on in record {
            more = on.more;
            is = on.is ∙ ap (λ l. l ++ on.more) (sym sit.part);
            effect = on.effect;
            list = list_over may.at.start k.run.start i es on.effect same on.list;
            can = subst (λ n. AllCanBeMade end.sent n i on.more) count
                (can-more v.took end.sent (length may.at.start.nodes) i on.more mine.took on.can);
          }

      each : (j : ℕ)
          → ListGoesOn rules c k.run.start j (parts j) end.sent (parts_ j) ⊎ (parts_ j ≡ parts j)
      each j = elim (cases_eq i j) [
        | inl here ↦ inl
            (subst (λ x. ListGoesOn rules c k.run.start x (parts x) end.sent (parts_ x)) here
            (subst (λ l. ListGoesOn rules c k.run.start i (parts i) end.sent l)
            (sym (list_here parts i i es refl)) goes))
        | inr apart ↦ inr (list_else parts i j es apart)
      ]

      law : (further : World C) × AreFurther rules c k.run.start end parts_ further
      law = lists_go_on rules c k.run.start end parts parts_ k.run.run each

      goes_on : Goes k.handings k.handings parts parts_ end i
      goes_on = record {
        end = law.0;
        run = record { start = k.run.start; starts = k.run.starts; run = law.1.run };
        more = law.1.before;
        others = λ j apart. (list_else parts i j es apart, refl);
      }
