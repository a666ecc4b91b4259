-- What a site holds came to it too early, and is of the numbers that its places stand for. This is
-- where what came too early by the definitions and what a site holds meet.
use Rattle.std.proofs.Common.{◌≡◌, ℕ, suc, ◌+◌, ◌<◌, List, [], ◌∷◌, ◌++◌, length, Bool, true, false}
use Rattle.std.proofs.Common.{nat_lt, ◌&&◌, ◌==◌, if◌then◌else◌, Some, None, Contains, refl, sym}
use Rattle.std.proofs.Common.{ap, subst, ◌∙◌, inl, inr, arith}
use Rattle.std.specs.Prelude.{is_none}
use Rattle.std.proofs.lemmas.Bool.{cases_lt, and_parts, eq-eqb, lt-ltb}
use Rattle.std.proofs.lemmas.Bool.Decides.{nat_tests}
use Rattle.std.proofs.lemmas.List.{get_or_past, set-set, set-get_or}
use Rattle.std.proofs.lemmas.List.Elements.{Contains-append_left}
use Rattle.std.proofs.lemmas.Grind.{get_or-set_at}
use Rattle.std.proofs.lemmas.Option.{none-some, same_Some}
use Rattle.std.proofs.Math.ListN.{set}
use Rattle.ivy_wire.specs.stated.Data.{Frame}
use Rattle.ivy_wire.specs.stated.Spelling.{Spells}
use Rattle.ivy_link.specs.declared.Verdict.{Verdict}
use Rattle.ivy_link.specs.declared.Verdict.TheVariants as verdict
use Rattle.ivy_link.specs.stated.Linked.{Linked, peer_at}
use Rattle.ivy_link.specs.stated.Accepted.{offered, accepted, delivered_then}
use Rattle.ivy_link.specs.Windows.{Window, place_at, place_of, is_free, moved_by, with_string, without_first}
use Rattle.ivy_link.specs.Windows as windows
use Rattle.ivy_link.specs.Holding.{holding, window_of, moved_at, can_hold_frame, place_in, after_hold, ready_of}
use Rattle.ivy_link.proofs.Holds.{moved-place, set-place, put-place, put_back, accepted-delivered, accepted-elsewhere}
use Rattle.ivy_site.specs.SiteView.{SiteView, holding_at}
use Rattle.ivy_site.specs.Sites.{early_at, IsHeld, HoldsEarly, holding_in, without_ready}

-- the same string at another moment, in the place of its number then
moved-held : (old new : SiteView) (from place place' : ℕ) (bytes : List ℕ) (more : List (List ℕ))
    → new.config ≡ old.config → new.node.link.me ≡ old.node.link.me
    → early_at new ≡ early_at old ++ more
    → (peer_at new.node.link from).delivered + place'
    ≡ (peer_at old.node.link from).delivered + place → IsHeld old from place bytes
    → IsHeld new from place' bytes
moved-held old new from place place' bytes more config me early count h = record {
  early = subst (λ l. Contains l bytes) (sym early)
      (Contains-append_left (early_at old) more bytes h.early);
  frame = h.frame;
  spelled = subst (λ c. Spells c h.frame bytes) (sym config) h.spelled;
  source = h.source;
  dest = h.dest ∙ sym me;
  number = let n = h.number in omega (arith, n, count);
}

-- nothing is delivered
pub record IsQuiet (old new : SiteView) : Type 0 where
  pub held : new.held ≡ old.held
  pub config : new.config ≡ old.config
  pub me : new.node.link.me ≡ old.node.link.me
  pub delivered : (j : ℕ)
      → (peer_at new.node.link j).delivered ≡ (peer_at old.node.link j).delivered
  pub more : List (List ℕ)
  pub early : early_at new ≡ early_at old ++ more

pub quiet_holds : (old new : SiteView) → HoldsEarly old → IsQuiet old new → HoldsEarly new
quiet_holds old new h q from place bytes is =
    moved-held old new from place place bytes q.more q.config q.me q.early
    (ap (λ n. n + place) (q.delivered from))
    (h from place bytes (subst (λ hs. place_at (window_of hs from) place ≡ Some bytes) q.held is))

-- a frame for this node is accepted
pub record IsHearing (old new : SiteView) (f : Frame) (w : Verdict) : Type 0 where
  pub link : Linked
  pub me : link.me ≡ old.node.link.me
  pub delivered : (j : ℕ) → (peer_at link j).delivered ≡ (peer_at old.node.link j).delivered
  pub is : w ≡ offered link f
  pub dest : f.dest ≡ link.me
  pub source : f.source < length link.peers
  pub after : new.node.link ≡ accepted link f
  pub held : new.held ≡ moved_at w old.held f.source
  pub same_me : new.node.link.me ≡ old.node.link.me
  pub config : new.config ≡ old.config
  pub more : List (List ℕ)
  pub early : early_at new ≡ early_at old ++ more

-- the place that a string had before
record HadPlace (w : Verdict) (win : Window) (place : ℕ) (bytes : List ℕ) : Type 0 where
  was : ℕ
  there : place_at win was ≡ Some bytes
  count : (d : ℕ) → delivered_then w d + place ≡ d + was

had-place : (w : Verdict) (win : Window) (place : ℕ) (bytes : List ℕ)
    → place_at (moved_by w win) place ≡ Some bytes → HadPlace w win place bytes
had-place verdict.Next win place bytes is =
    record { was = suc place; there = sym (moved-place win place) ∙ is; count = λ d. omega arith }
had-place verdict.Repeat win place bytes is = record { was = place; there = is; count = λ d. refl }
had-place verdict.Ahead win place bytes is = record { was = place; there = is; count = λ d. refl }
had-place verdict.NotMine win place bytes is = record { was = place; there = is; count = λ d. refl }

heard-place : (old new : SiteView) (f : Frame) (w : Verdict) → HoldsEarly old
    → (x : IsHearing old new f w) → (from place : ℕ) (bytes : List ℕ) → from ≡ f.source
    → HadPlace w (window_of old.held f.source) place bytes → IsHeld new from place bytes
heard-place old new f w h x from place bytes e had =
    let before : IsHeld old from had.was bytes =
    h from had.was bytes (ap (λ i. place_at (window_of old.held i) had.was) e ∙ had.there) in
    let now : (peer_at new.node.link from).delivered
    ≡ delivered_then w (peer_at old.node.link from).delivered =
    ap (λ (l : Linked). (peer_at l from).delivered) x.after
    ∙ (ap (λ i. (peer_at (accepted x.link f) i).delivered) e
    ∙ (accepted-delivered x.link f x.dest x.source
    ∙ (ap (λ v. delivered_then v (peer_at x.link f.source).delivered) (sym x.is)
    ∙ ap (delivered_then w)
    (x.delivered f.source ∙ ap (λ i. (peer_at old.node.link i).delivered) (sym e))))) in
    moved-held old new from had.was place bytes x.more x.config x.same_me x.early
    (ap (λ n. n + place) now ∙ had.count (peer_at old.node.link from).delivered) before

pub hearing-holds : (old new : SiteView) (f : Frame) (w : Verdict) → HoldsEarly old
    → IsHearing old new f w → HoldsEarly new
hearing-holds old new f w h x from place bytes is =
    elim (set-place old.held f.source from place (moved_by w (window_of old.held f.source)) bytes
    (subst (λ hs. place_at (window_of hs from) place ≡ Some bytes) x.held is)) [
      | inl here ↦
          heard-place old new f w h x from place bytes here.0
          (had-place w (window_of old.held f.source) place bytes here.1)
      | inr there ↦
          let same : (peer_at new.node.link from).delivered
          ≡ (peer_at old.node.link from).delivered =
          ap (λ (l : Linked). (peer_at l from).delivered) x.after
          ∙ (accepted-elsewhere x.link f from x.dest there.0 ∙ x.delivered from) in
          moved-held old new from place place bytes x.more x.config x.same_me x.early
          (ap (λ n. n + place) same) (h from place bytes there.1)
    ]

-- a string that came too early and spells the frame
pub record CameEarly (s : SiteView) (f : Frame) (bytes : List ℕ) : Type 0 where
  pub early : Contains (early_at s) bytes
  pub spelled : Spells s.config f bytes

can-hold-parts : (s : SiteView) (f : Frame) → can_hold_frame (holding_at s) f ≡ true
    → (f.dest ≡ s.node.link.me) × ((peer_at s.node.link f.source).delivered < f.number)
can-hold-parts s f can =
    let both =
    and_parts (f.dest == s.node.link.me)
    (windows.can_hold (peer_at s.node.link f.source).delivered (window_of s.held f.source)
    f.number) can in
    let more =
    and_parts (nat_lt (peer_at s.node.link f.source).delivered f.number)
    (is_free (window_of s.held f.source)
    (place_of (peer_at s.node.link f.source).delivered f.number)) both.1 in
    let dest : f.dest ≡ s.node.link.me = grind (arith, nat_tests, both.0) in
    let above : (peer_at s.node.link f.source).delivered < f.number =
    grind (arith, nat_tests, more.0) in
    (dest, above)

held-place : (s : SiteView) (f : Frame) (bytes : List ℕ) → HoldsEarly s → CameEarly s f bytes
    → can_hold_frame (holding_at s) f ≡ true → (from place : ℕ) (x : List ℕ)
    → place_at
    (window_of
    (set s.held f.source
    (with_string (window_of s.held f.source) (place_in (holding_at s) f) bytes)) from) place
    ≡ Some x → IsHeld s from place x
held-place s f bytes h came can from place x is =
    let parts = can-hold-parts s f can in
    elim (set-place s.held f.source from place
    (with_string (window_of s.held f.source) (place_in (holding_at s) f) bytes) x is) [
      | inr there ↦ h from place x there.1
      | inl here ↦
          elim (put-place (window_of s.held f.source) (place_in (holding_at s) f) place (Some bytes)
          x here.1) [
            | inr old ↦ h from place x (ap (λ i. place_at (window_of s.held i) place) here.0 ∙ old)
            | inl new ↦
                let same : bytes ≡ x = same_Some bytes x new.1 in
                let count : (peer_at s.node.link from).delivered
                ≡ (peer_at s.node.link f.source).delivered =
                ap (λ i. (peer_at s.node.link i).delivered) here.0 in
                let at : place ≡ place_in (holding_at s) f = new.0 in
                record {
                  early = subst (Contains (early_at s)) same came.early;
                  frame = f;
                  spelled = subst (Spells s.config f) same came.spelled;
                  source = sym here.0;
                  dest = parts.0;
                  number = let above = parts.1 in omega (arith, count, at, above);
                }
          ]
    ]

-- the string of a frame that came too early is held, if it can be
held_as : (s : SiteView) (f : Frame) (bytes : List ℕ) → HoldsEarly s → CameEarly s f bytes → (b : Bool)
    → can_hold_frame (holding_at s) f ≡ b → (from place : ℕ) (x : List ℕ)
    → place_at
    (window_of
    (if b then holding s.node.link
    (set s.held f.source
    (with_string (window_of s.held f.source) (place_in (holding_at s) f) bytes))
    else holding_at s).held from) place ≡ Some x → IsHeld s from place x
held_as s f bytes h came true can from place x is = held-place s f bytes h came can from place x is
held_as s f bytes h came false can from place x is = h from place x is

same-held : (s : SiteView) (hs : List Window) (from place : ℕ) (x : List ℕ) → IsHeld s from place x
    → IsHeld (record s { held = hs }) from place x
same-held s hs from place x h =
    record {
      early = h.early;
      frame = h.frame;
      spelled = h.spelled;
      source = h.source;
      dest = h.dest;
      number = h.number;
    }

pub holding-holds : (s : SiteView) (f : Frame) (bytes : List ℕ) → HoldsEarly s → CameEarly s f bytes
    → HoldsEarly (holding_in s f bytes)
holding-holds s f bytes h came from place x is =
    same-held s (holding_in s f bytes).held from place x
    (held_as s f bytes h came (can_hold_frame (holding_at s) f) refl from place x is)

-- the string that is ready is taken out
pub taking-holds : (s : SiteView) (source : ℕ) → HoldsEarly s → HoldsEarly (without_ready s source)
taking-holds s source h from place x is =
    same-held s (without_ready s source).held from place x
    (elim (set-place s.held source from place (without_first (window_of s.held source)) x is) [
      | inr there ↦ h from place x there.1
      | inl here ↦
          elim (put-place (window_of s.held source) 0 place None x here.1) [
            | inr old ↦ h from place x (ap (λ i. place_at (window_of s.held i) place) here.0 ∙ old)
            | inl new ↦ absurd (none-some x new.1)
          ]
    ])

-- and put back
free-first : (win : Window) (s : List ℕ) → place_at win 0 ≡ Some s
    → place_at (set win 0 None) 0 ≡ None
free-first [] s is = refl
free-first (x ∷ win) s is = refl

window-there : (held : List Window) (i : ℕ) (s : List ℕ) (w : Window)
    → place_at (window_of held i) 0 ≡ Some s → window_of (set held i w) i ≡ w
window-there held i s w is =
    elim (cases_lt i (length held)) [
      | inl lt ↦ get_or-set_at held i i w [] refl lt
      | inr past ↦
          absurd (none-some s (sym (ap (λ v. place_at v 0) (get_or_past held i [] past)) ∙ is))
    ]

-- a frame of the number that follows those delivered
pub record IsNextOf (s : SiteView) (from : ℕ) (f : Frame) : Type 0 where
  pub source : f.source ≡ from
  pub dest : f.dest ≡ s.node.link.me
  pub number : f.number ≡ (peer_at s.node.link from).delivered + 1

put-held : (l : Linked) (held : List Window) (from : ℕ) (f : Frame) (bytes : List ℕ)
    → f.source ≡ from → f.dest ≡ l.me → f.number ≡ (peer_at l from).delivered + 1
    → place_at (window_of held from) 0 ≡ Some bytes
    → (after_hold (holding l (set held from (without_first (window_of held from)))) f bytes).held
    ≡ held
put-held l held from f bytes source dest number ready =
    let d : ℕ = (peer_at l f.source).delivered in
    let taken : List Window = set held from (without_first (window_of held from)) in
    let count : f.number ≡ d + 1 = number ∙ ap (λ i. (peer_at l i).delivered + 1) (sym source) in
    let above : nat_lt d f.number ≡ true = lt-ltb d f.number (omega (arith, count)) in
    let at : place_of d f.number ≡ 0 = omega (arith, count) in
    let there : window_of taken f.source ≡ without_first (window_of held from) =
    ap (window_of taken) source
    ∙ window-there held from bytes (without_first (window_of held from)) ready in
    let empty : place_at (window_of taken f.source) (place_of d f.number) ≡ None =
    ap (place_at (window_of taken f.source)) at
    ∙ (ap (λ w. place_at w 0) there ∙ free-first (window_of held from) bytes ready) in
    let within : nat_lt (place_of d f.number) 32 ≡ true =
    lt-ltb (place_of d f.number) 32 (omega (arith, at)) in
    let can : can_hold_frame (holding l taken) f ≡ true =
    ap (λ b. b && windows.can_hold d (window_of taken f.source) f.number) (eq-eqb f.dest l.me dest)
    ∙ (ap (λ b. b && is_free (window_of taken f.source) (place_of d f.number)) above
    ∙ (ap (λ b. b && is_none (place_at (window_of taken f.source) (place_of d f.number))) within
    ∙ ap is_none empty)) in
    let written : set taken f.source
    (with_string (window_of taken f.source) (place_of d f.number) bytes) ≡ held =
    ap (λ k. set taken f.source (with_string (window_of taken f.source) k bytes)) at
    ∙ (ap (λ w. set taken f.source (with_string w 0 bytes)) there
    ∙ (ap (set taken f.source) (put_back (window_of held from) bytes ready)
    ∙ (ap (λ i. set taken i (window_of held from)) source
    ∙ (set-set held from (without_first (window_of held from)) (window_of held from)
    ∙ set-get_or held from [])))) in
    ap (λ b.
    (if b then holding l
    (set taken f.source (with_string (window_of taken f.source) (place_of d f.number) bytes))
    else holding l taken).held) can ∙ written

pub put-back-same : (s : SiteView) (from : ℕ) (f : Frame) (bytes : List ℕ) → IsNextOf s from f
    → ready_of (holding_at s) from ≡ Some bytes → holding_in (without_ready s from) f bytes ≡ s
put-back-same s from f bytes n ready =
    ap (λ (hs : List Window). record s { held = hs })
    (put-held s.node.link s.held from f bytes n.source n.dest n.number ready)
