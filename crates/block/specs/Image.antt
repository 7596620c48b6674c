-- What a block holds, and the promises of decoding and encoding, as types. Assumes nothing.
use Rattle.std.specs.Prelude.{◌≡◌, ℕ, List, length}
use Rattle.rules.specs.Tables.{Bytes}
use Rattle.state.specs.declared.Rows.{Rows}
use Rattle.state.specs.declared.State.{State}
use Rattle.state.specs.Meaning.{Stored}
use Rattle.block.specs.Places.{block_bytes}
use Rattle.block.specs.Layout.{Long, image_of, state_on}
use Rattle.block.specs.Tests.{decoded_as, decoded_of}

-- rows and a state that have an image: they meet document 01's conditions, what means nothing is 0, and the arrays have the lengths of their types
pub record Imaged (rows : Rows) (s : State) : Type 0 where
  pub stored : Stored rows s
  pub long : Long rows s

-- one image a state, and no other list of bytes is accepted
pub record BlockPromises : Type 0 where
  -- an image is bytes, as many as a block has
  pub image_bytes : (rows : Rows) (s : State) → Imaged rows s → Bytes (image_of rows s) × (length (image_of rows s) ≡ block_bytes)
  -- decode of encode is the state
  pub decode_encode : (rows : Rows) (s : State) → Imaged rows s → decoded_of (image_of rows s) ≡ decoded_as rows s
  -- only images are accepted
  pub decode_only : (b : List ℕ) → Bytes b → (rows : Rows) (s : State) → decoded_of b ≡ decoded_as rows s → (b ≡ image_of rows s) × Imaged rows s
  -- what a call changes, written over the image of the state before, is the image of the state after
  pub write_image : (rows : Rows) (s after : State) → Long rows s → Long rows after → state_on (image_of rows s) after ≡ image_of rows after
