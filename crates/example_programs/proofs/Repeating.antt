-- A loop that tries until it succeeds.
use Rattle.std.proofs.Common.{List, [], ◌∷◌, ◌++◌, refl, sym, ap, ◌∙◌, append_assoc, append-nil}
use Rattle.std.specs.List.{flat_map}
use Rattle.std.proofs.lemmas.Grind.{flat_map-append}
use Rattle.ivy_calls.specs.declared.answer.Answer.{Answer}
use Rattle.ivy_sync.proofs.answers.Lists.{All-both}
use Rattle.example_programs.specs.Adding.{AddsSome, AddsVain, TriesUntil}

pub none_yet : (InVain : List Answer → Type 0) (old : List Answer) → AddsVain InVain old old
none_yet InVain old = record { vain = []; each = tt; whole = sym (append-nil old) }

pub in_vain : (InVain : List Answer → Type 0) (old mid new : List Answer)
    → AddsVain InVain old mid → AddsSome InVain mid new → AddsVain InVain old new
in_vain InVain old mid new h try = record {
  vain = h.vain ++ try.added ∷ [];
  each = All-both InVain h.vain (try.added ∷ []) h.each (try.are, tt);
  whole =
      try.whole ∙ ap (λ (l : List Answer). l ++ try.added) h.whole
      ∙ append_assoc old (flat_map (λ (l : List Answer). l) h.vain) try.added
      ∙ ap (λ (l : List Answer). old ++ (flat_map (λ (m : List Answer). m) h.vain ++ l))
      (sym (append-nil try.added))
      ∙ ap (λ (l : List Answer). old ++ l)
      (sym (flat_map-append (λ (l : List Answer). l) h.vain (try.added ∷ [])));
}

pub at_last : (InVain Succeeds : List Answer → Type 0) (old mid new : List Answer)
    → AddsVain InVain old mid → AddsSome Succeeds mid new
    → AddsSome (TriesUntil InVain Succeeds) old new
at_last InVain Succeeds old mid new h done = record {
  added = flat_map (λ (l : List Answer). l) h.vain ++ done.added;
  are = record {
    vain = h.vain;
    each = h.each;
    last = done.added;
    succeeds = done.are;
    whole = refl;
  };
  whole =
      done.whole ∙ ap (λ (l : List Answer). l ++ done.added) h.whole
      ∙ append_assoc old (flat_map (λ (l : List Answer). l) h.vain) done.added;
}
