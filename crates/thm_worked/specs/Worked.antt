-- The examples that document 01 marks P (01, "Checked examples"), effects whose order matters though it may not look so (02,
-- W-201), an odd tile number (02, W-203) and addresses of the bus (02, W-205), as one table under a single statement.
-- Assumes nothing.
use Rattle.std.specs.Prelude.{ℕ, ◌≡◌, refl, true, false, cond, List, [], ◌∷◌, eqb, leb, pos, neg_ℤ}
use Rattle.rows.specs.Tab.{tab}
use Rattle.rgb15.specs.Colour.{red, black, white, to_rgb24, is_transparent, blend_channel, blend_with}
use Rattle.memory.specs.Memory.{half}
use Rattle.memory.specs.Sizes.{registers_size}
use Rattle.regs.specs.Registers.{BLDALPHA}
use Rattle.regs.specs.declared.ObjMapping.TheVariants.{TwoDimension}
use Rattle.regs.specs.declared.reading.Reading.TheVariants.{R, H}
use Rattle.regs.specs.Reading.{counted}
use Rattle.regs_window.specs.Windows.{far_edge, in_columns}
use Rattle.bg_regular.specs.Regular.{regular_x, regular_y, map_block, map_offset}
use Rattle.bg.specs.Bitmap.{bitmap_pixel}
use Rattle.obj_sprites.specs.Attrs.{obj_attrs}
use Rattle.obj_sprites.specs.Place.{x_of, y_of}
use Rattle.obj_sprites.specs.Tiles.{tiles_start, ignores_lowest_bit, tile_number, tile_base}
use Rattle.obj_sprites.specs.declared.attrs.ObjAttrs.{ObjAttrs}
use Rattle.sfx_effects.specs.Effects.{alpha, fade}
use Rattle.gpu_pages.specs.declared.Page.TheVariants.{Palram, Vram, Oam, Other}
use Rattle.gpu_pages.specs.Places.{page_of, video_offset, offset_in, byte_of, place_of}
use Rattle.gpu_bus.specs.Store.{Store8, takes_byte, is_taken}

-- Registers of zeros but for EVA, which is 31.
abbrev eva31 : List ℕ
eva31 = tab (λ at. cond (eqb at BLDALPHA) 31 0) registers_size

-- A sprite of 256 colours with tile 3: the halfwords 0x2000, 0 and 3.
abbrev tile3 : ObjAttrs
tile3 = obj_attrs (record { first = 0x2000; second = 0; third = 3 })

-- Every example, in the documents' order.
pub record Table : Type 0 where
  -- Y 159, 160, 255 give 159, -96, -1. X 239, 240, 511 give 239, -272, -1.
  pub y_last : y_of 159 ≡ pos 159
  pub y_first_above : y_of 160 ≡ neg_ℤ (pos 96)
  pub y_just_above : y_of 255 ≡ neg_ℤ (pos 1)
  pub x_last : x_of 239 ≡ pos 239
  pub x_first_before : x_of 240 ≡ neg_ℤ (pos 272)
  pub x_just_before : x_of 511 ≡ neg_ℤ (pos 1)
  -- Channels 10 and 20, weights 8 and 8: 15. 31 and 31, 16 and 16: 31.
  pub halves : blend_channel 10 20 8 8 ≡ 15
  pub capped : blend_channel 31 31 16 16 ≡ 31
  -- Black, evy 1, channel 31: 29. White, evy 1, channel 0: 1.
  pub blacker : red (fade 1 31 black) ≡ 29
  pub whiter : red (fade 1 0 white) ≡ 1
  -- Channel 20, EVA 31, EVB 0, other 0: R 31, H 20.
  pub weights-R : red (alpha R eva31 20 0) ≡ 31
  pub weights-H : red (alpha H eva31 20 0) ≡ 20
  -- 512x512, both offsets 255: column 1, line 1 is block 3, map offset 0; column 0, line 0 is block 0, offset 2,046.
  pub block_far : map_block 512 (regular_x 0xc000 255 1) (regular_y 0xc000 255 1) ≡ 3
  pub offset_far : map_offset (regular_x 0xc000 255 1) (regular_y 0xc000 255 1) ≡ 0
  pub block_near : map_block 512 (regular_x 0xc000 255 0) (regular_y 0xc000 255 0) ≡ 0
  pub offset_near : map_offset (regular_x 0xc000 255 0) (regular_y 0xc000 255 0) ≡ 2046
  -- Mode 3 word 0x8000 is transparent; 0x8001 shows 0x080000.
  pub word_transparent : is_transparent (bitmap_pixel (0x00 ∷ 0x80 ∷ []) [] 3 0 240 0 0) ≡ true
  pub word_shown : to_rgb24 (bitmap_pixel (0x01 ∷ 0x80 ∷ []) [] 3 0 240 0 0) ≡ 0x080000
  -- Window edges (10, 5): columns 10 to 239; (10, 10) and (250, 5): none.
  pub crossed : tab (in_columns 10 5) 240 ≡ tab (leb 10) 240
  pub equal : tab (in_columns 10 10) 240 ≡ tab (λ _. false) 240
  pub beyond : tab (in_columns 250 5) 240 ≡ tab (λ _. false) 240
  -- Channels 0 and 1, weights 0 and 16: 1; the channels exchanged and the weights not: 0.
  pub layers_exchanged : (blend_channel 0 1 0 16 ≡ 1) × (blend_channel 1 0 0 16 ≡ 0)
  -- Channel 2, white with evy 2, then 3: 9; with 3, then 2: 10.
  pub whites_reordered : (red (fade 3 (fade 2 2 white) white) ≡ 9) × (red (fade 2 (fade 3 2 white) white) ≡ 10)
  -- Channel 3, black with evy 1, then 6: 1; with 6, then 1: 0.
  pub blacks_reordered : (red (fade 6 (fade 1 3 black) black) ≡ 1) × (red (fade 1 (fade 6 3 black) black) ≡ 0)
  -- Channel 0, evy 1, white, then black: 0; black, then white: 1.
  pub white_and_black : (red (fade 1 (fade 1 0 white) black) ≡ 0) × (red (fade 1 (fade 1 0 black) white) ≡ 1)
  -- Channels 0 and 2, each under white with evy 6, then blended by 1 and 15: 11; blended, then white: 12.
  pub white_then_blend : (red (blend_with (fade 6 0 white) (fade 6 2 white) 1 15) ≡ 11)
      × (red (fade 6 (blend_with 0 2 1 15) white) ≡ 12)
  -- Channels 2 and 3 under white, evy 5: 11 and 11; evy 6: 12 and 13.
  pub difference_before : (red (fade 5 2 white) ≡ 11) × (red (fade 5 3 white) ≡ 11)
  pub difference_after : (red (fade 6 2 white) ≡ 12) × (red (fade 6 3 white) ≡ 13)
  -- Tile 3, 256 colours, two-dimensional mapping: R 0x10060, H 0x10040.
  pub odd_tile-R : tile_base R TwoDimension tile3 ≡ 0x10060
  pub odd_tile-H : tile_base H TwoDimension tile3 ≡ 0x10040
  -- Which byte an address reaches, and the place of an odd one; a page is eight bits; a byte stored at 0x06018000 is for 0x10000,
  -- which takes it in mode 3 and not in mode 0.
  pub palette_mirror : byte_of 0x05000401 ≡ record { page = Palram; offset = 1 }
  pub video_folded : byte_of 0x06018000 ≡ record { page = Vram; offset = 0x10000 }
  pub video_last : byte_of 0x06ffffff ≡ record { page = Vram; offset = 0x17fff }
  pub oam_odd : place_of 0x07000403 ≡ record { page = Oam; offset = 2 }
  pub page_of_eight_bits : page_of 0x15000000 ≡ Other
  pub byte_in_mode-3 : is_taken (Store8 (3 ∷ 0 ∷ []) 0x06018000 1) ≡ true
  pub byte_in_mode-0 : is_taken (Store8 (0 ∷ 0 ∷ []) 0x06018000 1) ≡ false

pub table : Table
unfolding y_of x_of obj_attrs ignores_lowest_bit tile_number tile_base blend_channel blend_with alpha fade counted far_edge tab half bitmap_pixel page_of video_offset offset_in byte_of
    tiles_start takes_byte is_taken
table = record {
  y_last = refl;
  y_first_above = refl;
  y_just_above = refl;
  x_last = refl;
  x_first_before = refl;
  x_just_before = refl;
  halves = refl;
  capped = refl;
  blacker = refl;
  whiter = refl;
  weights-R = refl;
  weights-H = refl;
  block_far = refl;
  offset_far = refl;
  block_near = refl;
  offset_near = refl;
  word_transparent = refl;
  word_shown = refl;
  crossed = refl;
  equal = refl;
  beyond = refl;
  layers_exchanged = (refl, refl);
  whites_reordered = (refl, refl);
  blacks_reordered = (refl, refl);
  white_and_black = (refl, refl);
  white_then_blend = (refl, refl);
  difference_before = (refl, refl);
  difference_after = (refl, refl);
  odd_tile-R = refl;
  odd_tile-H = refl;
  palette_mirror = refl;
  video_folded = refl;
  video_last = refl;
  oam_odd = refl;
  page_of_eight_bits = refl;
  byte_in_mode-3 = refl;
  byte_in_mode-0 = refl;
}
