-- `nearest_root n` is the nearest pattern to the root of n, by the squares of the halfway points, and no other is.
use Rattle.std.proofs.Common.{◌≡◌, ℕ, zero, suc, ◌+◌, ◌-◌, ◌*◌, ◌%◌, ◌^◌, ◌<◌, ◌≤◌, min, Bool, true, false, cond, not, T, eqb, ◌⊎◌, sym, refl, ◌∙◌, subst, inl, inr, le_of_eq, le_refl, lt_of_lt_of_le, eq-or-lt_of_le, lt_of_not-le, arith, eqb→eq, T_not, eq-eqb, ne_eqb}
use native.Mathlib.Nat.{pow-succ'}
use native.Mathlib.Decide.{dec_le}
use Rattle.hypot.specs.Hypot.{units_of, halfway, beyond, past, seek, nearest_root}
use Rattle.lists.proofs.Comparing.{by_order}
use Rattle.hypot.specs.Nearest.{After, Before, Nearest}
use Rattle.hypot.proofs.Root.Units.{units_lt}
use Rattle.hypot.proofs.Root.Seek.{past_yes, past_no, past_tie, sq_lt}

-- ---- `past` is what it says
pub past_says : (n c : ℕ) → T (past n c) → After n (halfway c) (suc c)
unfolding past
past_says n c = by_order (λ o. T (beyond c o) → After n (halfway c) (suc c)) (4 * n) (halfway c * halfway c)
    (λ l t. absurd t)
    (λ e t. inr (sym e, even c (eqb→eq (c % 2) 1 t)))
    (λ l t. inl l)
  where
    even : (c : ℕ) → c % 2 ≡ 1 → suc c % 2 ≡ 0
    even c h = omega arith

pub past_said : (n c : ℕ) → After n (halfway c) (suc c) → T (past n c)
past_said n c (inl h) = past_yes n c h
past_said n c (inr p) = subst T (sym (past_tie n c (sym p.0) ∙ eq-eqb (c % 2) 1 (is_odd c p.1))) tt
  where
    is_odd : (c : ℕ) → suc c % 2 ≡ 0 → c % 2 ≡ 1
    is_odd c h = omega arith

pub not_past_says : (n c : ℕ) → T (not (past n c)) → Before n (halfway c) c
unfolding past
not_past_says n c = by_order (λ o. T (not (beyond c o)) → Before n (halfway c) c) (4 * n) (halfway c * halfway c)
    (λ l t. inl l)
    (λ e t. inr (e, even (λ (h : c % 2 ≡ 1). T_not (eqb (c % 2) 1) t (subst T (sym (eq-eqb (c % 2) 1 h)) tt))))
    (λ l t. absurd t)
  where
    even : (c % 2 ≡ 1 → ⊥) → c % 2 ≡ 0
    even f = omega arith

pub not_past_said : (n c : ℕ) → Before n (halfway c) c → T (not (past n c))
not_past_said n c (inl h) = past_no n c h
not_past_said n c (inr p) = subst (λ (t : Bool). T (not t)) (sym (past_tie n c p.0 ∙ ne_eqb (c % 2) 1 (not_odd c p.1))) tt
  where
    not_odd : (c : ℕ) → c % 2 ≡ 0 → c % 2 ≡ 1 → ⊥
    not_odd c h k = omega arith

-- ---- halfway points are in the patterns' order, so `past` turns once
halfway_lt : (b c : ℕ) → b < c → halfway b < halfway c
unfolding halfway
halfway_lt b c h = both (units_of b) (units_of (suc b)) (units_of c) (units_of (suc c)) (units_lt b c h) (units_lt (suc b) (suc c) (Prim.Native.Nat.suc-le-suc h))
  where
    both : (w x y z : ℕ) → w < y → x < z → w + x < y + z
    both w x y z p q = omega arith

pub past_before : (n b c : ℕ) → c < b → T (past n b) → T (past n c)
past_before n b c h t = go (past_says n b t)
  where
    go : After n (halfway b) (suc b) → T (past n c)
    go (inl l) = past_yes n c (trans_lt (halfway c * halfway c) (halfway b * halfway b) (4 * n) (sq_lt (halfway c) (halfway b) (halfway_lt c b h)) l)
      where
        trans_lt : (x y z : ℕ) → x < y → y < z → x < z
        trans_lt x y z p q = omega arith
    go (inr e) = past_yes n c (lt_of_lt_of_le (sq_lt (halfway c) (halfway b) (halfway_lt c b h)) (le_of_eq e.0))

pub not_past_after : (n b c : ℕ) → b < c → T (not (past n b)) → T (not (past n c))
not_past_after n b c h t = lib.Dec.not_T (past n c) (λ u. T_not (past n b) t (past_before n c b h u))

-- ---- what `seek` finds
abbrev Found : ℕ → ℕ → ℕ → Type 0
Found n r top = ((c : ℕ) → r ≡ suc c → T (past n c)) × (suc r < top → T (not (past n r))) × (r < top)

seek_found : (n k lo : ℕ) → ((c : ℕ) → lo ≡ suc c → T (past n c)) → Found n (seek n k lo) (lo + 2 ^ k)
unfolding seek
seek_found n zero lo h = (h, λ l. absurd (no lo l), fits lo)
  where
    no : (lo : ℕ) → suc lo < lo + 1 → ⊥
    no lo l = omega arith

    fits : (lo : ℕ) → lo < lo + 1
    fits lo = omega arith
seek_found n (suc k) lo h = go (past n (lo + 2 ^ k - 1)) refl (seek_found n k)
  where
    two : lo + 2 ^ k + 2 ^ k ≡ lo + 2 ^ suc k
    two = twice (2 ^ k) (2 ^ suc k) (pow-succ' 2 k)
      where
        twice : (x y : ℕ) → y ≡ 2 * x → lo + x + x ≡ lo + y
        twice x y e = omega arith

    less : lo + 2 ^ k ≤ lo + 2 ^ suc k
    less = under (2 ^ k) (2 ^ suc k) (pow-succ' 2 k)
      where
        under : (x y : ℕ) → y ≡ 2 * x → lo + x ≤ lo + y
        under x y e = omega arith

    mid : (c : ℕ) → lo + 2 ^ k ≡ suc c → lo + 2 ^ k - 1 ≡ c
    mid c e = pred (lo + 2 ^ k) c e
      where
        pred : (x c : ℕ) → x ≡ suc c → x - 1 ≡ c
        pred x c e = omega arith

    go : (s : Bool) → past n (lo + 2 ^ k - 1) ≡ s → ((lo : ℕ) → ((c : ℕ) → lo ≡ suc c → T (past n c)) → Found n (seek n k lo) (lo + 2 ^ k)) → Found n (seek n k (cond s (lo + 2 ^ k) lo)) (lo + 2 ^ suc k)
    go true e ih = subst (λ (z : ℕ). Found n (seek n k (lo + 2 ^ k)) z) two (ih (lo + 2 ^ k) (λ c g. subst (λ (z : ℕ). T (past n z)) (mid c g) (subst T (sym e) tt)))
    go false e ih =
        let f = ih lo h in
        (f.0, (λ _. last (eq-or-lt_of_le f.2) f.1), lt_of_lt_of_le f.2 less)
      where
        r : ℕ
        r = seek n k lo

        last : (suc r ≡ lo + 2 ^ k) ⊎ (suc r < lo + 2 ^ k) → (suc r < lo + 2 ^ k → T (not (past n r))) → T (not (past n r))
        last (inl g) f = subst (λ (z : ℕ). T (not (past n z))) (mid r (sym g)) (subst (λ (t : Bool). T (not t)) (sym e) tt)
        last (inr l) f = f l

-- ---- the law
abbrev found : (n : ℕ) → Found n (seek n 31 0) 2147483648
found n = seek_found n 31 0 (λ c e. absurd (never c e))
  where
    never : (c : ℕ) → 0 ≡ suc c → ⊥
    never c e = omega arith

abbrev top : ℕ
top = 0x7f80_0000

capped : (n r : ℕ) → Found n r 2147483648 → Nearest n (min r top)
capped n r f = go (dec_le r top)
  where
    low : (r : ℕ) → r ≤ top → min r top ≡ r
    low r h = omega arith

    high : (r : ℕ) → top < r → min r top ≡ top
    high r h = omega arith

    go : Dec (r ≤ top) → Nearest n (min r top)
    go (yes h) = subst (λ (z : ℕ). Nearest n z) (sym (low r h)) (record {
      range = h;
      lower = λ c e. subst (λ (z : ℕ). After n (halfway c) z) (sym e) (past_says n c (f.0 c e));
      upper = λ l. not_past_says n r (f.1 (room r l));
    })
      where
        room : (r : ℕ) → r < top → suc r < 2147483648
        room r l = omega arith
    go (no h) = subst (λ (z : ℕ). Nearest n z) (sym (high r (lt_of_not-le h))) (record {
      range = le_refl top;
      lower = λ c e. subst (λ (z : ℕ). After n (halfway c) z) (sym e) (past_says n c (past_before n (r - 1) c (under r c (lt_of_not-le h) e) (f.0 (r - 1) (back r (lt_of_not-le h)))));
      upper = λ l. absurd (irr l);
    })
      where
        back : (r : ℕ) → top < r → r ≡ suc (r - 1)
        back r h = omega arith

        under : (r c : ℕ) → top < r → top ≡ suc c → c < r - 1
        under r c h e = omega arith

        irr : top < top → ⊥
        irr h = omega arith

pub nearest_law : (n : ℕ) → Nearest n (nearest_root n)
unfolding nearest_root
nearest_law n = capped n (seek n 31 0) (found n)

-- of two patterns the larger has its lower halfway point at the smaller's upper one, or above
differ : (n b c : ℕ) → Nearest n b → Nearest n c → b < c → ⊥
differ n b c p q h = go c refl
  where
    le_suc : (b c d : ℕ) → b < c → c ≡ suc d → b ≤ d
    le_suc b c d h e = omega arith

    small : (b c : ℕ) → b < c → c ≤ top → b < top
    small b c h l = omega arith

    not_past : (d : ℕ) → b ≤ d → T (not (past n d))
    not_past d l = elim (eq-or-lt_of_le l) [ inl e ↦ subst (λ (z : ℕ). T (not (past n z))) e at_b | inr k ↦ not_past_after n b d k at_b ]
      where
        at_b : T (not (past n b))
        at_b = not_past_said n b (p.upper (small b c h q.range))

    go : (z : ℕ) → c ≡ z → ⊥
    go zero e = never b c h e
      where
        never : (b c : ℕ) → b < c → c ≡ 0 → ⊥
        never b c h e = omega arith
    go (suc d) e = T_not (past n d) (not_past d (le_suc b c d h e)) (past_said n d (subst (λ (z : ℕ). After n (halfway d) z) e (q.lower d e)))

pub nearest_unique : (n b : ℕ) → Nearest n b → b ≡ nearest_root n
nearest_unique n b p = go (nearest_root n) (differ n b (nearest_root n) p (nearest_law n)) (differ n (nearest_root n) b (nearest_law n) p)
  where
    go : (r : ℕ) → (b < r → ⊥) → (r < b → ⊥) → b ≡ r
    go r f g = omega arith
