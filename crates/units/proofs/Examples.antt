-- Document 02's answers for single methods, by computation. Assumes nothing.
use mathlib.Core.Path.{◌≡◌, refl}
use mathlib.Core.List.{[], ◌∷◌, ◌++◌, map}
use lib.IntN.{negsuc}
use lib.ListN.{replicate}
use Rattle.instruction.specs.declared.Instruction.TheVariants.{Nop, Move, Const, Goto, ReturnVoid, InvokeVirtual, InvokeStatic}
use Rattle.opcodes.specs.Opcodes.{length_of}
use Rattle.units.specs.Units.{starts_from, starts_of, address_in}
use Rattle.units.specs.Formats.{opcode_of, signed_by, landing}
use Rattle.units.specs.Translate.{refused, translated, translation_from, units_translation}

-- nop and return-void; move v1, v15; move/from16 at its edges; const/4 v1, -1; goto -1; goto/32 to itself
fine : map units_translation (
    (0x0000 ∷ 0x000e ∷ [])
    ∷ (0xf101 ∷ [])
    ∷ (0xff02 ∷ 0x00ff ∷ [])
    ∷ (0xf112 ∷ 0x000e ∷ [])
    ∷ (0x0000 ∷ 0xff28 ∷ [])
    ∷ (0x002a ∷ 0x0000 ∷ 0x0000 ∷ [])
    ∷ []
    )
    ≡ translated (Nop ∷ ReturnVoid ∷ [])
    ∷ translated (Move 1 15 ∷ [])
    ∷ translated (Move 255 255 ∷ [])
    ∷ translated (Const 1 (negsuc 0) ∷ ReturnVoid ∷ [])
    ∷ translated (Nop ∷ Goto 0 ∷ [])
    ∷ translated (Goto 0 ∷ [])
    ∷ []
unfolding length_of starts_from starts_of address_in opcode_of signed_by landing translation_from units_translation
fine = refl

-- "25 units end inside it; 26 opcode not taken": cut short and not taken is 25, an unused opcode 26, also as the 33rd
cut_or_not_taken : map units_translation (
    (0x0016 ∷ [])
    ∷ (0x0013 ∷ 0x0005 ∷ 0x00ff ∷ [])
    ∷ (replicate 32 0x0000 ++ 0x0004 ∷ [])
    ∷ []
    )
    ≡ refused 25 0 ∷ refused 26 1 ∷ refused 26 32 ∷ []
unfolding length_of starts_from starts_of address_in opcode_of signed_by landing translation_from units_translation
cut_or_not_taken = refl

-- "target is no start (the first unused opcode, or instruction cut short, is the last start), offset 0 outside 2a": a target at the
-- last start and past it; before the first; at the 33rd start, where the 33rd instruction is broken and not the goto
targets : map units_translation (
    (0x0628 ∷ 0x0018 ∷ 0x0000 ∷ 0x0000 ∷ 0x0000 ∷ 0x0000 ∷ 0x00ff ∷ [])
    ∷ (0x0728 ∷ 0x0018 ∷ 0x0000 ∷ 0x0000 ∷ 0x0000 ∷ 0x0000 ∷ 0x00ff ∷ [])
    ∷ (0x0000 ∷ 0xfe28 ∷ [])
    ∷ (0x0038 ∷ 0x0000 ∷ [])
    ∷ (0x2028 ∷ replicate 31 0x0000 ++ 0x000e ∷ [])
    ∷ []
    )
    ≡ refused 26 1 ∷ refused 27 0 ∷ refused 27 1 ∷ refused 27 0 ∷ refused 27 32 ∷ []
unfolding length_of starts_from starts_of address_in opcode_of signed_by landing translation_from units_translation
targets = refl

-- "arguments not so or over five outside a range, an unused byte or nibble not 0, a value fits no frame field": a payload; v15 then v0; v1
-- then v3; G set under five; register 256
broken : map units_translation (
    (0x0100 ∷ 0x000e ∷ [])
    ∷ (0x206e ∷ 0x0001 ∷ 0x000f ∷ [])
    ∷ (0x206e ∷ 0x0001 ∷ 0x0031 ∷ [])
    ∷ (0x016e ∷ 0x0001 ∷ 0x0000 ∷ [])
    ∷ (0x0002 ∷ 0x0100 ∷ [])
    ∷ []
    )
    ≡ replicate 5 (refused 27 0)
unfolding length_of starts_from starts_of address_in opcode_of signed_by landing translation_from units_translation
broken = refl

-- "with none, c is 0 (a range's CCCC unread)"; what the program allows is the reader's matter
calls : map units_translation (
    (0x006e ∷ 0x0007 ∷ 0x0000 ∷ [])
    ∷ (0x0077 ∷ 0x0005 ∷ 0xffff ∷ [])
    ∷ (0x206e ∷ 0x0001 ∷ 0x0021 ∷ [])
    ∷ (0xff74 ∷ 0x0005 ∷ 0x0001 ∷ [])
    ∷ []
    )
    ≡ translated (InvokeVirtual 7 0 0 ∷ [])
    ∷ translated (InvokeStatic 5 0 0 ∷ [])
    ∷ translated (InvokeVirtual 1 2 1 ∷ [])
    ∷ translated (InvokeVirtual 5 255 1 ∷ [])
    ∷ []
unfolding length_of starts_from starts_of address_in opcode_of signed_by landing translation_from units_translation
calls = refl
