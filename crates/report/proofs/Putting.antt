-- Lines put one after the other.
use Rattle.std.proofs.Common.{◌≡◌, ℕ, suc, ◌+◌, ◌<◌, ◌≤◌, List, [], ◌∷◌, ◌++◌, length, get_or, take, Ok, Err, Result, sym, refl, ap, ◌∙◌, subst, arith}
use Rattle.std.proofs.lemmas.Grind.{flat_map-append}
use Rattle.std.proofs.lemmas.List.{append-nil, take_more, take_all, take-append-drop, take-append-le, flat_map_more, length-append, get_or_append_left, get_or-append-add}
use Rattle.plan.specs.declared.writer.Full.{Full}
use Rattle.plan.specs.declared.writer.Writer.{Writer}
use Rattle.plan.specs.Report.{Added, KeptOut}
use Rattle.plan.proofs.Adds.{added-added}
use Rattle.report.specs.Pages.{Stopped, PutsAll}
use Rattle.report.specs.Report.{bytes}

bytes-more : (lines : List (List ℕ)) (i : ℕ) → i < length lines → bytes (take i lines) ++ get_or lines i [] ≡ bytes (take (i + 1) lines)
bytes-more lines i h = flat_map_more (λ l. l) [] (take i lines) (get_or lines i []) ∙ ap bytes (sym (take_more lines i [] h))

pub none-put : (buf : List ℕ) (len : ℕ) → len ≤ length buf → Added buf len [] buf len
none-put buf len h = record {
  longer = omega arith;
  within = h;
  bytes = sym (take-append-drop len buf);
  room = refl;
  text = sym (append-nil (take len buf));
}

module _ (lines : List (List ℕ)) (a : List ℕ) (k i : ℕ) (b : List ℕ) (l : ℕ) (p : Added a k (bytes (take i lines)) b l) (c : List ℕ) (m : ℕ) where
  pub one-put : i < length lines → Added b l (get_or lines i []) c m → Added a k (bytes (take (i + 1) lines)) c m
  one-put h q = subst (λ (t : List ℕ). Added a k t c m) (bytes-more lines i h) (added-added a k (bytes (take i lines)) b l (get_or lines i []) c m p q)

  pub not_put : i < length lines → KeptOut b l (get_or lines i []) c m → Stopped lines a k c m
  not_put h q = record {
    put = i;
    some = h;
    whole = subst (λ (t : List ℕ). Added a k (bytes (take i lines)) t m) (sym q.same) (subst (λ (n : ℕ). Added a k (bytes (take i lines)) b n) (sym q.still) p);
    full = omega (arith, p.room, q.full, q.still);
  }

pub all_put : (lines : List (List ℕ)) (a : List ℕ) (k i : ℕ) (b : List ℕ) (l : ℕ) → length lines ≤ i → Added a k (bytes (take i lines)) b l → Added a k (bytes lines) b l
all_put lines a k i b l h p = subst (λ (ls : List (List ℕ)). Added a k (bytes ls) b l) (take_all i lines h) p

-- ---- some lines, and then others
take_past : (xs ys : List (List ℕ)) (k : ℕ) → take (length xs + k) (xs ++ ys) ≡ xs ++ take k ys
take_past [] ys k = let e : 0 + k ≡ k = omega arith in ap (λ (i : ℕ). take i ys) e
take_past (x ∷ xs) ys k =
    let e : suc (length xs) + k ≡ suc (length xs + k) = omega arith in
    ap (λ (i : ℕ). take i (x ∷ (xs ++ ys))) e ∙ ap (λ (t : List (List ℕ)). x ∷ t) (take_past xs ys k)

module _ (xs ys : List (List ℕ)) (a : List ℕ) (k : ℕ) (b : List ℕ) (l : ℕ) where
  pub stopped_first : Stopped xs a k b l → Stopped (xs ++ ys) a k b l
  stopped_first q = record {
    put = q.put;
    some = omega (arith, q.some, length-append xs ys);
    whole = subst (λ (t : List (List ℕ)). Added a k (bytes t) b l) (sym (take-append-le q.put xs ys (omega (arith, q.some)))) q.whole;
    full = subst (λ (t : List ℕ). length a < l + length t) (sym (get_or_append_left xs ys [] q.put q.some)) q.full;
  }

  module _ (p : Added a k (bytes xs) b l) (c : List ℕ) (m : ℕ) where
    pub both_put : Added b l (bytes ys) c m → Added a k (bytes (xs ++ ys)) c m
    both_put q = subst (λ (t : List ℕ). Added a k t c m) (sym (flat_map-append (λ (l : List ℕ). l) xs ys)) (added-added a k (bytes xs) b l (bytes ys) c m p q)

    pub stopped_later : Stopped ys b l c m → Stopped (xs ++ ys) a k c m
    stopped_later q = record {
      put = length xs + q.put;
      some = omega (arith, q.some, length-append xs ys);
      whole = subst (λ (t : List ℕ). Added a k t c m) (sym (flat_map-append (λ (l : List ℕ). l) xs (take q.put ys)) ∙ ap bytes (sym (take_past xs ys q.put))) (added-added a k (bytes xs) b l (bytes (take q.put ys)) c m p q.whole);
      full = subst (λ (t : List ℕ). length a < m + length t) (sym (get_or-append-add xs ys q.put [])) (omega (arith, q.full, p.room));
    }

pub puts_then : (xs ys : List (List ℕ)) (u v w : Writer) (r : Result (Unit {0}) Full) → Added u.buf.now u.len (bytes xs) v.buf.now v.len → PutsAll ys v w r → PutsAll (xs ++ ys) u w r
puts_then xs ys u v w (Ok i) p q = both_put xs ys _ _ _ _ p _ _ q
puts_then xs ys u v w (Err e) p q = stopped_later xs ys _ _ _ _ p _ _ q
