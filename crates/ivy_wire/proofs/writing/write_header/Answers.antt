use Rattle.std.proofs.Common.{rules, ◌≡◌, ◌∙◌, ◌∷◌, ◌++◌, [], List, ℕ, drop, ap, refl}
use Rattle.std.proofs.lemmas.List.{drop-drop}
use Rattle.byteorder.specs.Endian.{big_bytes}
use Rattle.ivy_wire.specs.stated.Spelling.{code_of}
use Rattle.ivy_wire.proofs.Writes.{one_write}
use Rattle.ivy_wire.proofs.writing.write_header.Goals as goal

pub returns : goal.returns
returns c =
    let out : List ℕ = c.args.out.now in
    let six : List ℕ =
    73 ∷ 86 ∷ 2 ∷ code_of c.args.kind ∷ c.args.frame.now.source ∷ c.args.frame.now.dest ∷ [] in
    let len : List ℕ = big_bytes 2 c.args.len in
    let number : List ℕ = big_bytes 8 c.args.frame.now.number in
    let ack : List ℕ = big_bytes 8 c.args.frame.now.ack in
    let first : c.copy_from_slice.new.self ≡ six = search rules in
    one_write 16 8 ((six ++ len) ++ number) _ (drop 8 (drop 2 (drop 6 out))) _ ack
    (one_write 8 8 (six ++ len) _ (drop 2 (drop 6 out)) _ number
    (one_write 6 2 six _ (drop 6 out) _ len
    (ap (λ (t : List ℕ). t ++ drop 6 out) first) refl c.write_u16.ensures)
    refl c.write_u64.ensures) refl c.write_u64-2.ensures
    ∙ ap (λ (t : List ℕ). (((six ++ len) ++ number) ++ ack) ++ t)
    (ap (λ (t : List ℕ). drop 8 (drop 8 t)) (drop-drop 2 6 out)
    ∙ ap (drop 8) (drop-drop 8 8 out) ∙ drop-drop 8 16 out)
    ∙ ap (λ k.
    (((73 ∷ 86 ∷ 2 ∷ code_of k ∷ c.args.frame.now.source ∷ c.args.frame.now.dest ∷ [] ++ len)
    ++ number) ++ ack) ++ drop 24 out) c.requires.kind
