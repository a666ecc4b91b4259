-- What holds of an outbox stays, and how many strings an event adds.
use Rattle.std.proofs.Common.{◌≡◌, ◌≢◌, Bool, false, if◌then◌else◌, ℕ, ◌+◌, ◌^◌, ◌<◌, ◌≤◌, List, []}
use Rattle.std.proofs.Common.{◌∷◌, ◌++◌, All, length, map, get_or, take, true, refl, sym, ap, subst}
use Rattle.std.proofs.Common.{◌∙◌, arith, append_assoc, Some}
use Rattle.std.specs.Borrow.{Bor}
use Rattle.std.specs.List.{slice_get}
use Rattle.std.proofs.lemmas.Option.{slice_get_within, get_or_from_slice_get}
use Rattle.std.proofs.Math.Seq.{take-append_seam}
use Rattle.std.proofs.lemmas.List.{length-map, get_or-map, take_more, map_more, map-append, length-append}
use Rattle.ivy_model.specs.declared.Config.{Config}
use Rattle.ivy_model.specs.stated.Config.{IsConfig}
use Rattle.ivy_wire.specs.stated.Data.{Frame, Parcel}
use Rattle.ivy_wire.specs.declared.frame.Frame as frame
use Rattle.ivy_wire.specs.Lent.{owned_frame}
use Rattle.ivy_wire.specs.stated.Spelling.{FitsParcel, Fits, spelling}
use Rattle.ivy_link.specs.stated.Linked.{Linked, first_link, after_sends, frames_of, has_numbers, AreWithin}
use Rattle.ivy_link.specs.stated.Accepted.{accepted}
use Rattle.ivy_link.specs.stated.Pulsed.{frames_again, after_pulse, pulsed}
use Rattle.ivy_link.specs.Windows.{Window, with_string}
use Rattle.ivy_link.specs.Holding.{Holding, link_of, window_at, with_window, can_hold_frame, place_in, after_hold}
use Rattle.ivy_link.specs.stated.LinkLimits.{most_again}
use Rattle.ivy_link.specs.Fitting.{FitsLink}
use Rattle.ivy_link.proofs.Sending.{sends-me, length-frames_of}
use Rattle.ivy_link.proofs.Peers.{accepted-me}
use Rattle.ivy_link.proofs.Fits.{first_fits, sends-fits, frames-fit, fits-within, heard-link-fits, pulsed-fits, again-fit, few-again}
use Rattle.ivy_link.specs.Outboxes.{Outbox, IsSoundOutbox, holding_of, with_sending, posted_by}

-- how many strings are added
pub few : (l : Linked) (to : ℕ) → length (map spelling (frames_again l to)) ≤ most_again
few l to = omega (arith, few-again l to, length-map (frames_again l to) spelling)

pub as_many : (l : Linked) (ps : List Parcel) → length (map spelling (frames_of l ps)) ≡ length ps
as_many l ps = length-map (frames_of l ps) spelling ∙ length-frames_of l ps

-- the frames that are spelled one after the other
pub fits_at : (c : Config) (fs : List (frame.Frame (Bor (List ℕ)))) (i : ℕ)
    (d : frame.Frame (Bor (List ℕ))) → i < length fs → All (Fits c) (map owned_frame fs)
    → Fits c (owned_frame (get_or fs i d))
fits_at c fs i d lt fit =
    subst (Fits c) (get_or-map owned_frame fs i d (owned_frame d) lt)
    (fit i (owned_frame d) (subst (λ n. i < n) (sym (length-map fs owned_frame)) lt))

pub spelled_more : (fs : List (frame.Frame (Bor (List ℕ)))) (i : ℕ) (d : frame.Frame (Bor (List ℕ)))
    (before strings : List (List ℕ)) (string : List ℕ) → i < length fs
    → strings ≡ before ++ map spelling (map owned_frame (take i fs))
    → string ≡ spelling (owned_frame (get_or fs i d))
    → strings ++ string ∷ [] ≡ before ++ map spelling (map owned_frame (take (i + 1) fs))
spelled_more fs i d before strings string lt so here =
    let one : map spelling (map owned_frame (take (i + 1) fs))
    ≡ map spelling (map owned_frame (take i fs)) ++ spelling (owned_frame (get_or fs i d))
    ∷ [] = ap (map spelling) (map_more owned_frame fs i d lt)
    ∙ map-append spelling (map owned_frame (take i fs)) (owned_frame (get_or fs i d) ∷ []) in
    ap (λ ss. ss ++ string ∷ []) so
    ∙ (append_assoc before (map spelling (map owned_frame (take i fs))) (string ∷ [])
    ∙ ap (λ ss. before ++ ss)
    (ap (λ s. map spelling (map owned_frame (take i fs)) ++ s ∷ []) here ∙ sym one))

pub fits_read : (c : Config) (fs : List Frame) (i : ℕ) (f : Frame) → slice_get fs i ≡ Some f
    → All (Fits c) fs → Fits c f
fits_read c fs i f read fit =
    subst (Fits c) (get_or_from_slice_get fs i f f read) (fit i f (slice_get_within fs i f read))

pub spelled_one : (fs : List Frame) (i : ℕ) (f : Frame) (before strings : List (List ℕ))
    (string : List ℕ) → slice_get fs i ≡ Some f → strings ≡ before ++ map spelling (take i fs)
    → string ≡ spelling f → strings ++ string ∷ [] ≡ before ++ map spelling (take (i + 1) fs)
spelled_one fs i f before strings string read so here =
    let more : take (i + 1) fs ≡ take i fs ++ f ∷ [] =
    take_more fs i f (slice_get_within fs i f read)
    ∙ ap (λ x. take i fs ++ x ∷ []) (get_or_from_slice_get fs i f f read) in
    let mapped : map spelling (take (i + 1) fs) ≡ map spelling (take i fs) ++ spelling f ∷ [] =
    ap (map spelling) more ∙ map-append spelling (take i fs) (f ∷ []) in
    ap (λ ss. ss ++ string ∷ []) so
    ∙ (append_assoc before (map spelling (take i fs)) (string ∷ [])
    ∙ ap (λ ss. before ++ ss) (ap (λ s. map spelling (take i fs) ++ s ∷ []) here ∙ sym mapped))

pub front-stays : (before more strings : List (List ℕ)) → strings ≡ before ++ more
    → take (length before) strings ≡ before
front-stays before more strings so = ap (take (length before)) so ∙ take-append_seam before more

pub few-wait : (o : Outbox) (to : ℕ)
    → length (with_sending o (pulsed o.link to)).waiting ≤ length o.waiting + most_again
few-wait o to =
    omega (arith, few o.link to, length-append o.waiting (map spelling (frames_again o.link to)))

pub as_many-wait : (o : Outbox) (ps : List Parcel)
    → length (posted_by o ps).waiting ≡ length o.waiting + length ps
as_many-wait o ps =
    length-append o.waiting (map spelling (frames_of o.link ps))
    ∙ ap (λ n. length o.waiting + n) (as_many o.link ps)

-- at the beginning
pub first-box : (c : Config) (me : ℕ) (ws : List (List ℕ)) (hs : List Window) → IsConfig c
    → me < c.nodes
    → IsSoundOutbox
    (record { config = c; me = me; link = first_link me c.nodes; waiting = ws; held = hs })
first-box c me ws hs limits here =
    record { limits = limits; mine = refl; fits = first_fits c me here }

-- another link of the same node that fits
relinked : (n v : Outbox) → v ≡ n → IsSoundOutbox v
    → (l : Linked) (ws : List (List ℕ)) (hs : List Window) → l.me ≡ n.link.me
    → (IsSoundOutbox n → FitsLink n.config l)
    → IsSoundOutbox (record { config = v.config; me = v.me; link = l; waiting = ws; held = hs })
relinked n v same s l ws hs mine fits =
    let at : IsSoundOutbox n = subst IsSoundOutbox same s in
    subst (λ (x : Outbox). IsSoundOutbox
    (record { config = x.config; me = x.me; link = l; waiting = ws; held = hs })) (sym same)
    (record { limits = at.limits; mine = mine ∙ at.mine; fits = fits at })

pub accepted-box : {B : Type 0} (n v : Outbox) → v ≡ n → IsSoundOutbox v
    → (f : frame.Frame B) (l : Linked) (hs : List Window) → f.number < 2 ^ 64
    → l ≡ accepted v.link f
    → IsSoundOutbox
    (record { config = v.config; me = v.me; link = l; waiting = v.waiting; held = hs })
accepted-box n v same s f l hs small is =
    let now : l ≡ accepted n.link f = is ∙ ap (λ (x : Outbox). accepted x.link f) same in
    relinked n v same s l v.waiting hs (ap (λ k. k.me) now ∙ accepted-me n.link f)
    (λ at. subst (FitsLink n.config) (sym now)
    (heard-link-fits n.config n.link f at.fits small))

-- what is held is nothing to the link
pub link-kept : (b : Bool) (h : Holding) (j : ℕ) (w : Window)
    → link_of (if b then with_window h j w else h) ≡ link_of h
link-kept true h j w = refl
link-kept false h j w = refl

pub held-box : {B : Type 0} (v : Outbox) → IsSoundOutbox v
    → (f : frame.Frame B) (s : List ℕ) (h : Holding) → h ≡ after_hold (holding_of v) f s
    → IsSoundOutbox
    (record { config = v.config; me = v.me; link = link_of h; waiting = v.waiting; held = h.held })
held-box v sound f s h is =
    let o : Holding = holding_of v in
    let same : link_of h ≡ v.link =
    ap link_of is
    ∙ link-kept (can_hold_frame o f) o f.source
    (with_string (window_at o f.source) (place_in o f) s) in
    subst (λ (l : Linked). IsSoundOutbox
    (record { config = v.config; me = v.me; link = l; waiting = v.waiting; held = h.held }))
    (sym same)
    (record { limits = sound.limits; mine = sound.mine; fits = sound.fits })

pub pulsed-box : (n v : Outbox) → v ≡ n → IsSoundOutbox v
    → (to : ℕ) (l : Linked) (ws : List (List ℕ)) (hs : List Window) → l ≡ after_pulse v.link to
    → IsSoundOutbox (record { config = v.config; me = v.me; link = l; waiting = ws; held = hs })
pulsed-box n v same s to l ws hs is =
    let now : l ≡ after_pulse n.link to = is ∙ ap (λ (x : Outbox). after_pulse x.link to) same in
    relinked n v same s l ws hs (ap (λ k. k.me) now)
    (λ at. subst (FitsLink n.config) (sym now) (pulsed-fits n.config n.link to at.fits))

pub pulsed-fit : (n v : Outbox) → v ≡ n → IsSoundOutbox v → (to : ℕ) (fs : List Frame)
    → to < n.config.nodes → to ≢ n.me → fs ≡ frames_again v.link to → All (Fits v.config) fs
pulsed-fit n v same s to fs there apart is =
    let inside : to < v.config.nodes =
    subst (λ (x : Outbox). to < x.config.nodes) (sym same) there in
    let other : to ≢ v.link.me = λ e. apart (e ∙ (s.mine ∙ ap (λ (x : Outbox). x.me) same)) in
    subst (All (Fits v.config)) (sym is) (again-fit v.config v.link to s.fits inside other)

-- the parcels of a node fit, seen from its link
own-fit : (n v : Outbox) → v ≡ n → IsSoundOutbox v → (ps : List Parcel)
    → All (FitsParcel n.config n.me) ps → All (FitsParcel v.config v.link.me) ps
own-fit n v same s ps fit =
    subst (λ me. All (FitsParcel v.config me) ps) (sym s.mine)
    (subst (λ (x : Outbox). All (FitsParcel x.config x.me) ps) (sym same) fit)

pub sent-within : (n v : Outbox) → v ≡ n → IsSoundOutbox v → (ps : List Parcel)
    → All (FitsParcel n.config n.me) ps → AreWithin v.link ps
sent-within n v same s ps fit = fits-within v.config v.link ps s.fits (own-fit n v same s ps fit)

pub numbers-at : (n v : Outbox) → v ≡ n → (ps : List Parcel) → has_numbers n.link ps ≡ true
    → has_numbers v.link ps ≡ true
numbers-at n v same ps all = ap (λ (x : Outbox). has_numbers x.link ps) same ∙ all

pub sent-fit : (n v : Outbox) → v ≡ n → IsSoundOutbox v → (ps : List Parcel)
    → All (FitsParcel n.config n.me) ps → has_numbers n.link ps ≡ true
    → All (Fits v.config) (frames_of v.link ps)
sent-fit n v same s ps fit numbers =
    frames-fit v.config v.link ps s.fits (own-fit n v same s ps fit)
    (numbers-at n v same ps numbers)

pub sent-box : (n v : Outbox) → v ≡ n → IsSoundOutbox v
    → (ps : List Parcel) (l : Linked) (ws : List (List ℕ)) (hs : List Window)
    → All (FitsParcel n.config n.me) ps → has_numbers n.link ps ≡ true → l ≡ after_sends v.link ps
    → IsSoundOutbox (record { config = v.config; me = v.me; link = l; waiting = ws; held = hs })
sent-box n v same s ps l ws hs fit numbers is = record {
  limits = s.limits;
  mine = ap (λ k. k.me) is ∙ (sends-me v.link ps ∙ s.mine);
  fits = subst (FitsLink v.config) (sym is)
      (sends-fits v.config v.link ps s.fits (own-fit n v same s ps fit)
      (numbers-at n v same ps numbers));
}

pub few-added : (n v : Outbox) → v ≡ n → (to : ℕ) (fs : List Frame) (ws : List (List ℕ))
    → fs ≡ frames_again v.link to → ws ≡ v.waiting ++ map spelling fs
    → length ws ≤ length n.waiting + most_again
few-added n v same to fs ws is added =
    let all : ws ≡ v.waiting ++ map spelling (frames_again v.link to) =
    added ∙ ap (λ fs. v.waiting ++ map spelling fs) is in
    let count : length ws ≡ length (v.waiting ++ map spelling (frames_again v.link to)) =
    ap length all in
    let before : length v.waiting ≡ length n.waiting = ap (λ (x : Outbox). length x.waiting) same in
    omega (
      arith,
      count,
      before,
      few v.link to,
      length-append v.waiting (map spelling (frames_again v.link to)),
    )
