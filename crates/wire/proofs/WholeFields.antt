-- What the check of a field says of it: what is wrong, or that the whole of it is there. Assumes nothing.
use Prim.Native.Nat.{ℕ, ◌+◌, ◌≤◌}
use mathlib.Core.Bool.{Bool, true, false, cond, not}
use mathlib.Core.List.{List}
use mathlib.Core.Option.{Option, none, some}
use mathlib.Core.Path.{◌≡◌, refl}
use native.Mathlib.Omega.{arith}
use lib.Dec.{eqb, ltb}
use lib.ListN.{length}
use borrow.Author.Tests.{eqb-true, ltb-false}
use Rattle.std.specs.Prelude.{Result, Ok, Err}
use Rattle.std.specs.Prelude as memory
use Rattle.rules.specs.Lists.{unless}
use Rattle.rules.specs.Refusals.{cut, row_17, wrong_length}
use Rattle.rules.specs.Fields as rules
use Rattle.rules.specs.Fields.{field_fault, header, to_end, value_fault, word}
use Rattle.wire.specs.Field.{bad_field, field_check, field_size, length_of}
use Rattle.wire.specs.declared.field.BadField.{BadField}

-- a bad field is the rules' one
pub record IsBad (value : memory.Option ℕ) (late : Bool) (s : List ℕ) (b : BadField) : Type 0 where
  pub bad : rules.BadField
  pub fault_is : field_fault (λ tag. length_of value) late s ≡ some bad
  pub is : b ≡ bad_field bad

-- a whole field has the value that its tag asks for, and nothing is wrong with it
pub record IsWhole (value : memory.Option ℕ) (late : Bool) (s : List ℕ) (size : ℕ) : Type 0 where
  pub bytes : ℕ
  pub value_is : length_of value ≡ some bytes
  pub size_is : size ≡ 3 + bytes
  pub header_is : field_size s ≡ size
  pub fits : size ≤ length s
  pub in_time : late ≡ false
  pub no_fault : field_fault (λ tag. length_of value) late s ≡ none

bad_not_whole : {A : Type 0} {b : BadField} {size : ℕ} → ◌≡◌ {A = Result ℕ BadField} (Err b) (Ok size) → A
bad_not_whole e = absurd (let z : ◌≡◌ {A = ℕ} 0 1 = cc in omega arith)

whole_size : {m n : ℕ} → ◌≡◌ {A = Result ℕ BadField} (Ok m) (Ok n) → m ≡ n
whole_size e = cc

module _ (late : Bool) (s : List ℕ) where
  pub bad_is : (value : memory.Option ℕ) {b : BadField} → field_check value late s ≡ Err b → IsBad value late s b
  bad_is value {b} e = go (field_fault (λ tag. length_of value) late s) refl e
    where
      go : (fault : Option rules.BadField) → field_fault (λ tag. length_of value) late s ≡ fault → unless fault (λ x. Err (bad_field x)) (Ok (field_size s)) ≡ Err b → IsBad value late s b
      go none i e = absurd (let z : ◌≡◌ {A = ℕ} 0 1 = cc in omega arith)
      go (some x) i e = record { bad = x; fault_is = i; is = cc }

  pub whole_is : (value : memory.Option ℕ) {size : ℕ} → field_check value late s ≡ Ok size → IsWhole value late s size
  whole_is memory.None {size} e = go (ltb (length s) 3) e
    where
      go : (short : Bool) → unless (cond short (to_end cut s) (value_fault none late s)) (λ x. Err (bad_field x)) (Ok (field_size s)) ≡ Ok size → IsWhole memory.None late s size
      go true e = bad_not_whole e
      go false e = bad_not_whole e
  whole_is (memory.Some n) {size} e = go (ltb (length s) 3) refl (eqb (word s 1) n) refl late refl (ltb (length s) (3 + n)) refl e
    where
      go : (short : Bool) → ltb (length s) 3 ≡ short → (right : Bool) → eqb (word s 1) n ≡ right → (b : Bool) → late ≡ b → (cutoff : Bool) → ltb (length s) (3 + n) ≡ cutoff
          → unless (cond short (to_end cut s) (cond (not right) (header wrong_length) (cond b (header row_17) (cond cutoff (to_end cut s) none)))) (λ x. Err (bad_field x)) (Ok (field_size s)) ≡ Ok size
          → IsWhole (memory.Some n) late s size
      go true i right j b k cutoff l e = bad_not_whole e
      go false i false j b k cutoff l e = bad_not_whole e
      go false i true j true k cutoff l e = bad_not_whole e
      go false i true j false k true l e = bad_not_whole e
      go false i true j false k false l e =
          let has : word s 1 ≡ n = eqb-true (word s 1) n j in
          let all : field_size s ≡ size = whole_size e in
          record {
            bytes = n;
            value_is = refl;
            size_is = omega (arith, has, all);
            header_is = all;
            fits = omega (arith, has, all, ltb-false (length s) (3 + n) l);
            in_time = k;
            no_fault = simp (i, j, k, l);
          }
