-- The items of a pack are its first and those of the pack after it.
use Rattle.std.proofs.Common.{◌≡◌, ℕ, zero, suc, ◌+◌, ◌<◌, ◌≤◌, cond, List, [], ◌∷◌, length, take, drop, nat_le, refl, sym, ap, ◌∙◌, arith, length-drop}
use Rattle.packs.specs.Items.{first_items, items, size_of}
use Rattle.std.proofs.lemmas.Bool.{cond-false, cond-true, le-leb, lt-leb}

none_whole : (n : ℕ) (pack : List ℕ) → length pack < 4 + size_of pack → first_items n pack ≡ []
none_whole zero pack h = refl
none_whole (suc n) pack h = cond-false _ _ _ (lt-leb _ _ h)

-- as many as the pack has bytes are enough
enough : (n m : ℕ) (pack : List ℕ) → length pack ≤ n → length pack ≤ m → first_items n pack ≡ first_items m pack
enough zero m pack h k = sym (none_whole m pack (omega arith))
enough (suc n) zero pack h k = none_whole (suc n) pack (omega arith)
enough (suc n) (suc m) pack h k =
    let after = drop (4 + size_of pack) pack in
    let fewer = length-drop (4 + size_of pack) pack in
    ap (λ is. cond (nat_le (4 + size_of pack) (length pack)) (take (size_of pack) (drop 4 pack) ∷ is) []) (enough n m after (omega arith) (omega arith))

pub items_first : (pack item rest : List ℕ) → 4 + size_of pack ≤ length pack → item ≡ take (size_of pack) (drop 4 pack) → rest ≡ drop (4 + size_of pack) pack → items pack ≡ item ∷ items rest
items_first pack item rest h i r =
    let fewer = length-drop (4 + size_of pack) pack in
    enough (length pack) (suc (length pack)) pack (omega arith) (omega arith)
    ∙ cond-true _ _ _ (le-leb _ _ h)
    ∙ rw (i, r) (ap (λ is. take (size_of pack) (drop 4 pack) ∷ is) (enough (length pack) (length (drop (4 + size_of pack) pack)) (drop (4 + size_of pack) pack) (omega arith) (omega arith)))

pub items_none : (pack : List ℕ) → length pack < 4 + size_of pack → items pack ≡ []
items_none pack h = none_whole (length pack) pack h
