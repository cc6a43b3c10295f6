-- Bytes put into a buffer.
use Rattle.std.proofs.Common.{◌≡◌, ℕ, ◌+◌, ◌-◌, ◌≤◌, List, ◌++◌, length, take, drop, sym, refl, ap, ◌∙◌, subst, arith}
use Rattle.std.proofs.lemmas.List.{append_assoc, take_at, drop_at, drop-drop, length-append, length-take-le, length-drop}
use Rattle.plan.specs.Report.{Added}

pub added : (buf : List ℕ) (len : ℕ) (more buf' : List ℕ) → len + length more ≤ length buf → buf' ≡ take len buf ++ (more ++ drop (len + length more) buf) → Added buf len more buf' (len + length more)
added buf len more buf' h e =
    let l : length (take len buf) ≡ len = length-take-le len buf (omega arith) in
    let m : length (take len buf ++ more) ≡ len + length more = length-append _ _ ∙ ap (λ n. n + length more) l in
    let r : length buf' ≡ length buf = omega (arith, ap length e, length-append (take len buf) (more ++ drop (len + length more) buf), length-append more (drop (len + length more) buf), length-drop (len + length more) buf) in
    record {
      longer = refl;
      within = h;
      bytes = e;
      room = r;
      text = ap (take (len + length more)) (e ∙ sym (append_assoc (take len buf) more _)) ∙ take_at (take len buf ++ more) _ (len + length more) m;
    }

-- past what was put, a buffer is as it was
rest-kept : (buf : List ℕ) (len : ℕ) (more buf' : List ℕ) (len' n : ℕ) → len ≤ length buf → Added buf len more buf' len' → len' ≤ n → drop n buf' ≡ drop n buf
rest-kept buf len more buf' len' n b a h =
    let l : length (take len buf) ≡ len = length-take-le len buf b in
    let m : length (take len buf ++ more) ≡ len' = length-append _ _ ∙ ap (λ n. n + length more) l ∙ sym a.longer in
    let d : drop len' buf' ≡ drop len' buf = ap (drop len') (a.bytes ∙ sym (append_assoc (take len buf) more _)) ∙ drop_at (take len buf ++ more) _ len' m in
    let e : len' + (n - len') ≡ n = omega arith in
    let P : ℕ → Type 0 = λ k. drop k buf' ≡ drop k buf in
    subst P e (sym (drop-drop (n - len') len' buf') ∙ ap (drop (n - len')) d ∙ drop-drop (n - len') len' buf)

-- first some bytes, then others
pub added-added : (a : List ℕ) (k : ℕ) (x b : List ℕ) (l : ℕ) (y c : List ℕ) (m : ℕ) → Added a k x b l → Added b l y c m → Added a k (x ++ y) c m
added-added a k x b l y c m p q =
    let long : m ≡ k + length (x ++ y) = omega (arith, p.longer, q.longer, length-append x y) in
    record {
      longer = long;
      within = omega (arith, q.within, p.room);
      bytes = q.bytes ∙ ap (λ (t : List ℕ). t ++ (y ++ drop m b)) p.text
          ∙ ap (λ (t : List ℕ). (take k a ++ x) ++ (y ++ t)) (rest-kept a k x b l m (omega (arith, p.longer, p.within)) p (omega (arith, q.longer)))
          ∙ append_assoc (take k a) x (y ++ drop m a)
          ∙ ap (λ (t : List ℕ). take k a ++ t) (sym (append_assoc x y (drop m a)));
      room = q.room ∙ p.room;
      text = q.text ∙ ap (λ (t : List ℕ). t ++ y) p.text ∙ append_assoc (take k a) x y;
    }
