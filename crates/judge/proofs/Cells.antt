-- The cells of the loops over variables: cell n has what the loop over variable n has found so far, and the loops inside it use the
-- cells below. Assumes nothing.
use Rattle.std.proofs.Common.{◌≡◌, ℕ, ◌+◌, ◌-◌, ◌<◌, ◌≤◌, List, length, get_or, drop, sym, ap, ◌∙◌, add-zero, arith}
use Rattle.std.proofs.lemmas.List.{get_or-drop, get_or_read, drop-drop}

-- what is kept from n on is kept from any later place on
pub kept_from : {V : Type 0} (n m : ℕ) (xs ys : List V) → n ≤ m → drop n ys ≡ drop n xs → drop m ys ≡ drop m xs
kept_from n m xs ys l h =
    let e : n + (m - n) ≡ m = omega arith in
    ap (λ k. drop k ys) (sym e) ∙ sym (drop-drop (m - n) n ys) ∙ ap (drop (m - n)) h ∙ drop-drop (m - n) n xs ∙ ap (λ k. drop k xs) e

-- what is read in cell n stood there before
pub cell_kept : {V : Type 0} (n : ℕ) (xs ys : List V) (d r : V) → n < length ys → r ≡ get_or ys n r → drop n ys ≡ drop n xs → r ≡ get_or xs n d
cell_kept n xs ys d r l is h =
    get_or_read ys n r l is d ∙ ap (λ k. get_or ys k d) (sym (add-zero n)) ∙ sym (get_or-drop n ys 0 d) ∙ ap (λ zs. get_or zs 0 d) h
    ∙ get_or-drop n xs 0 d ∙ ap (λ k. get_or xs k d) (add-zero n)
