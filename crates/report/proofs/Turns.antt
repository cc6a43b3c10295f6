-- Lists that a loop makes, one turn on.
use Rattle.std.proofs.Common.{◌≡◌, ℕ, ◌+◌, List, [], ◌∷◌, ◌++◌, map, sym, ap, ◌∙◌, arith}
use Rattle.std.proofs.lemmas.List.FromFn.{map-range_with_len_more}
use Rattle.std.proofs.lemmas.List.{append_assoc, flat_map_more, map-id}
use Rattle.std.specs.List.{range_with_len, flat_map}

-- one element more
pub push_turn : {A : Type 0} (f : ℕ → A) (old items items' : List A) (i : ℕ) (x : A) → items ≡ old ++ map f (range_with_len 0 i) → items' ≡ items ++ x ∷ [] → x ≡ f i → items' ≡ old ++ map f (range_with_len 0 (i + 1))
push_turn {A} f old items items' i x h p e =
    p
    ∙ ap (λ (t : List A). t ++ x ∷ []) h
    ∙ append_assoc old (map f (range_with_len 0 i)) (x ∷ [])
    ∙ ap (λ (t : List A). old ++ t) (ap (λ (y : A). map f (range_with_len 0 i) ++ y ∷ []) e ∙ sym (map-range_with_len_more f 0 i i (omega arith)))

counting_more : (i : ℕ) → range_with_len 0 (i + 1) ≡ range_with_len 0 i ++ i ∷ []
counting_more i =
    sym (map-id (range_with_len 0 (i + 1))) ∙ map-range_with_len_more (λ (n : ℕ). n) 0 i i (omega arith) ∙ ap (λ (t : List ℕ). t ++ i ∷ []) (map-id (range_with_len 0 i))

-- one block more
pub block_turn : {A : Type 0} (f : ℕ → List A) (old items items' : List A) (i : ℕ) → items ≡ old ++ flat_map f (range_with_len 0 i) → items' ≡ items ++ f i → items' ≡ old ++ flat_map f (range_with_len 0 (i + 1))
block_turn {A} f old items items' i h p =
    p ∙ ap (λ (t : List A). t ++ f i) h ∙ flat_map_more f old (range_with_len 0 i) i ∙ ap (λ (t : List ℕ). old ++ flat_map f t) (sym (counting_more i))
