-- The texts of fields have no space and no newline.
use Rattle.std.proofs.Common.{◌≡◌, ℕ, ◌^◌, ◌<◌, ◌≤◌, Bool, true, false, cond, ◌≢◌, ◌==◌, List, ◌∷◌, decimal, refl, sym, ◌∙◌, inl, inr, arith}
use Rattle.std.specs.List.{list_all}
use Rattle.std.proofs.lemmas.Bool.{cases_lt}
use Rattle.std.proofs.lemmas.Bool.Decides.{nat_tests}
use Rattle.redn_disasm.specs.Assembly.{is_inside}
use Rattle.redn_disasm.specs.Fields.{kind_word, order_word, op_word}
use Rattle.redn_disasm.proofs.Pieces.{decimal_inside}

-- one word of a choice
chosen : (b : Bool) (x y : List ℕ) → list_all is_inside x ≡ true → list_all is_inside y ≡ true → list_all is_inside (cond b x y) ≡ true
chosen true x y e f = e
chosen false x y e f = f

pub kind_inside : (n : ℕ) → list_all is_inside (kind_word n) ≡ true
unfolding kind_word
kind_inside n = chosen (n == 0) _ _ refl (chosen (n == 1) _ _ refl (chosen (n == 2) _ _ refl (chosen (n == 3) _ _ refl refl)))

pub order_inside : (n : ℕ) → list_all is_inside (order_word n) ≡ true
unfolding order_word
order_inside n = chosen (n == 0) _ _ refl refl

pub op_inside : (n : ℕ) → n < 2 ^ 64 → list_all is_inside (op_word n) ≡ true
unfolding op_word
op_inside n small = chosen (n == 0) _ _ refl (chosen (n == 1) _ _ refl (chosen (n == 2) _ _ refl (chosen (n == 3) _ _ refl (chosen (n == 4) _ _ refl (chosen (n == 5) _ _ refl (chosen (n == 6) _ _ refl (chosen (n == 7) _ _ refl (decimal_inside n small))))))))

past : (n k : ℕ) (x y : List ℕ) → k < n → cond (n == k) x y ≡ y
past n k x y h = grind (arith, nat_tests)

-- an opcode without a word
pub op_other : (n : ℕ) → 8 ≤ n → op_word n ≡ 63 ∷ decimal n
unfolding op_word
op_other n h = past n 0 _ _ (omega arith) ∙ past n 1 _ _ (omega arith) ∙ past n 2 _ _ (omega arith) ∙ past n 3 _ _ (omega arith) ∙ past n 4 _ _ (omega arith) ∙ past n 5 _ _ (omega arith) ∙ past n 6 _ _ (omega arith) ∙ past n 7 _ _ (omega arith)

pub other_op : (text : List ℕ) (n : ℕ) → 8 ≤ n → text ≡ 63 ∷ decimal n → text ≡ op_word n
other_op text n h e = e ∙ sym (op_other n h)

pub no_op : (text : List ℕ) (n : ℕ) → ((m : ℕ) → m < 8 → text ≢ op_word m) → ((m : ℕ) → 8 ≤ m → m < 2 ^ 16 → text ≢ 63 ∷ decimal m) → (text ≡ op_word n) × (n < 2 ^ 16) → ⊥
no_op text n word other h =
    elim (cases_lt n 8) [
      | inl low ↦ word n low h.0
      | inr high ↦ other n high h.1 (h.0 ∙ op_other n high)
    ]
