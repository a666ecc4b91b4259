-- A node goes on by events whose lines it notes, one after another, and writes them.
use Rattle.std.proofs.Common.{◌≡◌, ◌+◌, ℕ, List, [], ◌∷◌, ◌++◌, length, Option, refl, sym, arith, ap, subst, ◌∙◌, append-nil, append_assoc, inl, inr}
use Rattle.std.specs.Io.KnownBytes.{Appends}
use Rattle.std.proofs.KnownBytes.{Appends-nil, Appends-trans}
use Rattle.std.proofs.lemmas.List.Concat.{flat_map-append}
use Rattle.ivy_moves.specs.Events.{Event}
use Rattle.ivy_moves.specs.Marks.{Delivery, marks, marks_of}
use Rattle.ivy_link.specs.declared.Verdict.{Verdict}
use Rattle.ivy_link.specs.declared.Verdict.TheVariants as verdict
use Rattle.ivy_moves.specs.stated.Nodes.{pulsing}
use Rattle.ivy_moves.specs.Parts.{pulse_marks}
use Rattle.ivy_site.specs.Inside.{Holds, Receives}
use Rattle.ivy_logs.specs.Printed.{event_line}
use Rattle.ivy_site.specs.SiteView.{SiteView, after_delivery, after_pulse_to}
use Rattle.ivy_site.specs.Sites.{GoesOnOnce, without_ready}
use Rattle.ivy_logs.proofs.Entries.{marks-append}
use Rattle.ivy_join.proofs.EventSteps.{received-listed}
use Rattle.ivy_process.specs.NodeLogs.{Served, served, lines_of, turns_in, turns_of, AddsEvents, IsEmptied, IsLogged, KeepsCalls, StreamsPart, StreamsWhole, Takes}
use Rattle.ivy_process.proofs.Kept.{keeps-further, keeps-same, keeps-waiting}

none-first : (n : ℕ) → n ≡ 0 + n
none-first n = omega arith

one-first : (a b d all : ℕ) → all ≡ b + d → a + all ≡ a + b + d
one-first a b d all is = omega (arith, is)

turns-append : (xs ys : List Event) → turns_in (xs ++ ys) ≡ turns_in xs + turns_in ys
turns-append [] ys = none-first (turns_in ys)
turns-append (e ∷ es) ys =
    one-first (turns_of e) (turns_in es) (turns_in ys) (turns_in (es ++ ys)) (turns-append es ys)

left-one : (a b n : ℕ) → b + n ≡ a → b + (n + 0) ≡ a
left-one a b n is = omega (arith, is)

left-further : (a b d : ℕ) (xs ys : List Event) → b + turns_in xs ≡ a → d + turns_in ys ≡ b
    → d + turns_in (xs ++ ys) ≡ a
left-further a b d xs ys first second = let all = turns-append xs ys in omega (arith, first, second, all)

-- no event
pub stays : (s s' : Served) → s'.site.events ≡ s.site.events → s'.unlogged ≡ s.unlogged → s'.left ≡ s.left
    → s'.told ≡ s.told → KeepsCalls s.site s'.site → AddsEvents s s'
stays s s' listed noted left told kept = record {
  kept = kept;
  left = let same = left in omega (arith, same);
  told = told;
  events = [];
  listed = listed ∙ sym (append-nil s.site.events);
  noted = noted ∙ sym (append-nil s.unlogged);
}

-- one event
pub goes_one : (e : Event) (s s' : Served) → s'.site.events ≡ s.site.events ++ marks_of e
    → s'.unlogged ≡ s.unlogged ++ event_line e → s'.left + turns_of e ≡ s.left → s'.told ≡ s.told
    → KeepsCalls s.site s'.site → AddsEvents s s'
goes_one e s s' listed noted left told kept = record {
  kept = kept;
  left = left-one s.left s'.left (turns_of e) left;
  told = told;
  events = e ∷ [];
  listed = listed ∙ ap (λ l. s.site.events ++ l) (sym (append-nil (marks_of e)));
  noted = noted ∙ ap (λ l. s.unlogged ++ l) (sym (append-nil (event_line e)));
}

-- first these events, then those
pub goes_further : (a b d : Served) → AddsEvents a b → AddsEvents b d → AddsEvents a d
goes_further a b d x y = record {
  kept = keeps-further a.site b.site d.site x.kept y.kept;
  left = left-further a.left b.left d.left x.events y.events x.left y.left;
  told = y.told ∙ x.told;
  events = x.events ++ y.events;
  listed = y.listed ∙ ap (λ l. l ++ marks y.events) x.listed
      ∙ append_assoc a.site.events (marks x.events) (marks y.events)
      ∙ ap (λ l. a.site.events ++ l) (sym (marks-append x.events y.events));
  noted = y.noted ∙ ap (λ l. l ++ lines_of y.events) x.noted
      ∙ append_assoc a.unlogged (lines_of x.events) (lines_of y.events)
      ∙ ap (λ l. a.unlogged ++ l) (sym (flat_map-append event_line x.events y.events));
}

-- nothing at all
pub stays-as : (s s' : Served) → s' ≡ s → AddsEvents s s'
stays-as s s' same =
    stays s s' (ap (λ (x : Served). x.site.events) same) (ap (λ (x : Served). x.unlogged) same)
    (ap (λ (x : Served). x.left) same) (ap (λ (x : Served). x.told) same)
    (keeps-same s.site s'.site (ap (λ (x : Served). x.site) same))

-- a string that is left alone, one that is delivered, and what follows from it
pub takes-none : (bytes : List ℕ) (s s' : Served) → s' ≡ s → Takes bytes s s'
takes-none bytes s s' same = record {
  more = [];
  listed = ap (λ (x : Served). x.site.events) same ∙ sym (append-nil s.site.events);
  first = inl refl;
}

pub takes-on : (bytes : List ℕ) (a b d : Served) → b.site.events ≡ a.site.events ++ Delivery bytes ∷ []
    → AddsEvents b d → Takes bytes a d
takes-on bytes a b d one y = record {
  more = Delivery bytes ∷ marks y.events;
  listed = y.listed ∙ ap (λ l. l ++ marks y.events) one
      ∙ append_assoc a.site.events (Delivery bytes ∷ []) (marks y.events);
  first = inr (marks y.events, refl);
}

pub noted-delivery : (bytes : List ℕ) (s s' : Served) (old new : SiteView) (text more : List ℕ) (left told : ℕ)
    → s ≡ served old text left told → new.events ≡ old.events ++ Delivery bytes ∷ [] → s' ≡ served new more left told
    → s'.site.events ≡ s.site.events ++ Delivery bytes ∷ []
noted-delivery bytes s s' old new text more left told was listed is =
    ap (λ (x : Served). x.site.events) is ∙ listed
    ∙ ap (λ (x : Served). x.site.events ++ Delivery bytes ∷ []) (sym was)

-- a frame for another node is no event
pub not-mine : (bytes : List ℕ) (v : Verdict) (source : ℕ) (s s' : SiteView) → Receives bytes v source s s'
    → v ≡ verdict.NotMine → s' ≡ s
not-mine bytes v source s s' r is =
    subst (λ w. Holds w r.first.frame bytes r.mid s') is r.holds
    ∙ (r.first.after ∙ ap (λ w. after_delivery s bytes w r.first.frame.source r.first.effect) is)

nil-second : {X : Type 0} (xs ys : List X) → xs ++ ys ≡ [] → ys ≡ []
nil-second [] ys is = is
nil-second (x ∷ xs) ys is = absurd (let long = ap length is in omega (arith, long))

-- nor is a pulse that sent nothing
pub not-sent : (to : ℕ) (s s' : SiteView) → s' ≡ after_pulse_to s to (pulsing s.node to) → s'.waiting ≡ []
    → s'.events ≡ s.events
not-sent to s s' after none =
    ap (λ (x : SiteView). x.events) after
    ∙ ap (λ l. s.events ++ pulse_marks to l)
    (nil-second s.waiting (pulsing s.node to).sent (sym (ap (λ (x : SiteView). x.waiting) after) ∙ none))
    ∙ append-nil s.events

-- the strings that wait are no events
pub emptied : (s s' : Served) → IsEmptied s s' → AddsEvents s s'
emptied s s' e =
    stays s s' (ap (λ (x : SiteView). x.events) e.site) e.unlogged e.left e.told (keeps-waiting s.site s'.site e.site)

-- what the log lacked is written, the strings that waited are taken out, and nothing else but what was told changes
pub logged-on : (a w s t : Served) (log log' : Option (List ℕ)) → IsLogged a w log log' → IsEmptied w s
    → t.site ≡ s.site → t.unlogged ≡ s.unlogged → t.left ≡ s.left → IsLogged a t log log'
logged-on a w s t log log' x e site unlogged left = record {
  listed = ap (λ (v : SiteView). v.events) site ∙ ap (λ (v : SiteView). v.events) e.site ∙ x.listed;
  written = x.written;
  whole = unlogged ∙ e.unlogged ∙ x.whole;
  left = left ∙ e.left ∙ x.left;
  kept = keeps-further a.site w.site t.site x.kept
      (subst (KeepsCalls w.site) (sym site) (keeps-waiting w.site s.site e.site));
}

module _ (a b d : Served) (first second third : Option (List ℕ)) where
  pub streams-on : StreamsPart a b first second → AddsEvents b d → StreamsPart a d first second
  streams-on x y = record {
    kept = keeps-further a.site b.site d.site x.kept y.kept;
    left = left-further a.left b.left d.left x.events y.events x.left y.left;
    events = x.events ++ y.events;
    listed = y.listed ∙ ap (λ l. l ++ marks y.events) x.listed
        ∙ append_assoc a.site.events (marks x.events) (marks y.events)
        ∙ ap (λ l. a.site.events ++ l) (sym (marks-append x.events y.events));
    part = x.part;
    written = x.written;
    all = ap (λ l. x.part ++ l) y.noted
        ∙ sym (append_assoc x.part b.unlogged (lines_of y.events))
        ∙ ap (λ l. l ++ lines_of y.events) x.all
        ∙ append_assoc a.unlogged (lines_of x.events) (lines_of y.events)
        ∙ ap (λ l. a.unlogged ++ l) (sym (flat_map-append event_line x.events y.events));
  }

  pub streams-logged : StreamsPart a b first second → IsLogged b d second third → StreamsPart a d first third
  streams-logged x y = record {
    kept = keeps-further a.site b.site d.site x.kept y.kept;
    left = ap (λ n. n + turns_in x.events) y.left ∙ x.left;
    events = x.events;
    listed = y.listed ∙ x.listed;
    part = x.part ++ b.unlogged;
    written = Appends-trans first second third x.part b.unlogged x.written y.written;
    all = ap (λ l. (x.part ++ b.unlogged) ++ l) y.whole ∙ append-nil (x.part ++ b.unlogged) ∙ x.all;
  }

  pub streams-whole : StreamsPart a b first second → IsLogged b d second third
      → StreamsWhole a d first third
  streams-whole x y = record {
    kept = keeps-further a.site b.site d.site x.kept y.kept;
    left = ap (λ n. n + turns_in x.events) y.left ∙ x.left;
    events = x.events;
    listed = y.listed ∙ x.listed;
    written = subst (Appends first third) x.all
        (Appends-trans first second third x.part b.unlogged x.written y.written);
    whole = y.whole;
  }

  -- first this service, then that
  pub streams-further : StreamsPart a b first second → StreamsPart b d second third → StreamsPart a d first third
  streams-further x y = record {
    kept = keeps-further a.site b.site d.site x.kept y.kept;
    left = left-further a.left b.left d.left x.events y.events x.left y.left;
    events = x.events ++ y.events;
    listed = y.listed ∙ ap (λ l. l ++ marks y.events) x.listed
        ∙ append_assoc a.site.events (marks x.events) (marks y.events)
        ∙ ap (λ l. a.site.events ++ l) (sym (marks-append x.events y.events));
    part = x.part ++ y.part;
    written = Appends-trans first second third x.part y.part x.written y.written;
    all = append_assoc x.part y.part d.unlogged ∙ ap (λ l. x.part ++ l) y.all
        ∙ sym (append_assoc x.part b.unlogged (lines_of y.events))
        ∙ ap (λ l. l ++ lines_of y.events) x.all
        ∙ append_assoc a.unlogged (lines_of x.events) (lines_of y.events)
        ∙ ap (λ l. a.unlogged ++ l) (sym (flat_map-append event_line x.events y.events));
  }

-- nothing was written yet
pub streams-begin : (a b : Served) (log : Option (List ℕ)) → AddsEvents a b → StreamsPart a b log log
streams-begin a b log x = record {
  kept = x.kept;
  left = x.left;
  events = x.events;
  listed = x.listed;
  part = [];
  written = Appends-nil log;
  all = x.noted;
}

-- one event at the node's site, whose line is noted
pub noted-one : (e : Event) (old new : Served) (site site' : SiteView) (lines : List ℕ) (left left' told : ℕ)
    → old ≡ served site lines left told → site'.events ≡ site.events ++ marks_of e
    → new ≡ served site' (lines ++ event_line e) left' told → left' + turns_of e ≡ left → KeepsCalls site site'
    → AddsEvents old new
noted-one e old new site site' lines left left' told was listed is made kept =
    goes_one e old new
    (ap (λ (x : Served). x.site.events) is ∙ listed
    ∙ ap (λ (x : Served). x.site.events ++ marks_of e) (sym was))
    (ap (λ (x : Served). x.unlogged) is
    ∙ ap (λ (x : Served). x.unlogged ++ event_line e) (sym was))
    (ap (λ (x : Served). x.left + turns_of e) is ∙ made ∙ ap (λ (x : Served). x.left) (sym was))
    (ap (λ (x : Served). x.told) is ∙ ap (λ (x : Served). x.told) (sym was))
    (subst (λ (x : Served). KeepsCalls old.site x.site) (sym is)
    (subst (λ (x : Served). KeepsCalls x.site site') (sym was) kept))

-- a string that a site held is delivered
pub once-listed : (source : ℕ) (bytes : List ℕ) (s s' : SiteView) → GoesOnOnce source bytes s s'
    → s'.events ≡ s.events ++ Delivery bytes ∷ []
once-listed source bytes s s' once =
    received-listed bytes verdict.Next source (without_ready s source) s'
    (record { mid = s'; first = once.next; from = once.from; holds = refl }) (λ same. (cc))

-- so it is where node and log are called by another name
pub streams-same : (a b b' : Served) (first second second' : Option (List ℕ)) → b' ≡ b
    → second' ≡ second → StreamsPart a b first second → StreamsPart a b' first second'
streams-same a b b' first second second' node log x =
    subst (λ l. StreamsPart a b' first l) (sym log) (subst (λ n. StreamsPart a n first second) (sym node) x)
