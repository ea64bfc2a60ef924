-- The 256 opcodes of Android's "Dalvik bytecode": the generalized instruction of each, "as source document 004 lists them", and
-- its length in units. Definitions only.
use Rattle.std.specs.Prelude.{◌≡◌, cond as pick, List, ℕ, ◌/◌, ◌%◌, ◌<◌, ltb, get_or}

-- the generalized instructions, in the order of document 004's list; `unused` where it has none
pub data Group : Type 0 where
  unused : Group
  nop : Group
  move : Group
  move_exception : Group
  return_void_lem : Group
  return : Group
  const : Group
  const_class : Group
  monitor_enter : Group
  monitor_exit : Group
  check_cast_lem : Group
  instance_of_lem : Group
  array_length : Group
  new_instance : Group
  new_array : Group
  filled_new_array : Group
  fill_array_data : Group
  throw : Group
  goto : Group
  packed_switch : Group
  sparse_switch : Group
  cmp : Group
  if : Group
  ifz : Group
  aget : Group
  aput : Group
  iget : Group
  iput : Group
  sget : Group
  sput : Group
  invoke_virtual : Group
  invoke_super : Group
  invoke_direct : Group
  invoke_static : Group
  invoke_interface : Group
  unop : Group
  binop : Group
  binop_lit : Group

abbrev pub group_number : Group → ℕ
group_number unused = 0
group_number nop = 1
group_number move = 2
group_number move_exception = 3
group_number return_void_lem = 4
group_number return = 5
group_number const = 6
group_number const_class = 7
group_number monitor_enter = 8
group_number monitor_exit = 9
group_number check_cast_lem = 10
group_number instance_of_lem = 11
group_number array_length = 12
group_number new_instance = 13
group_number new_array = 14
group_number filled_new_array = 15
group_number fill_array_data = 16
group_number throw = 17
group_number goto = 18
group_number packed_switch = 19
group_number sparse_switch = 20
group_number cmp = 21
group_number if = 22
group_number ifz = 23
group_number aget = 24
group_number aput = 25
group_number iget = 26
group_number iput = 27
group_number sget = 28
group_number sput = 29
group_number invoke_virtual = 30
group_number invoke_super = 31
group_number invoke_direct = 32
group_number invoke_static = 33
group_number invoke_interface = 34
group_number unop = 35
group_number binop = 36
group_number binop_lit = 37

-- "a blank repeats the group above, but 8d to 8f are unop"; "later additions stay unused". Each line: the opcodes below a number
-- that the lines above leave
unfoldable pub group_of : ℕ → Group
group_of op =
    pick (ltb op 0x01) nop
    (pick (ltb op 0x0d) move
    (pick (ltb op 0x0e) move_exception
    (pick (ltb op 0x0f) return_void_lem
    (pick (ltb op 0x12) return
    (pick (ltb op 0x1c) const
    (pick (ltb op 0x1d) const_class
    (pick (ltb op 0x1e) monitor_enter
    (pick (ltb op 0x1f) monitor_exit
    (pick (ltb op 0x20) check_cast_lem
    (pick (ltb op 0x21) instance_of_lem
    (pick (ltb op 0x22) array_length
    (pick (ltb op 0x23) new_instance
    (pick (ltb op 0x24) new_array
    (pick (ltb op 0x26) filled_new_array
    (pick (ltb op 0x27) fill_array_data
    (pick (ltb op 0x28) throw
    (pick (ltb op 0x2b) goto
    (pick (ltb op 0x2c) packed_switch
    (pick (ltb op 0x2d) sparse_switch
    (pick (ltb op 0x32) cmp
    (pick (ltb op 0x38) if
    (pick (ltb op 0x3e) ifz
    (pick (ltb op 0x44) unused
    (pick (ltb op 0x4b) aget
    (pick (ltb op 0x52) aput
    (pick (ltb op 0x59) iget
    (pick (ltb op 0x60) iput
    (pick (ltb op 0x67) sget
    (pick (ltb op 0x6e) sput
    (pick (ltb op 0x6f) invoke_virtual
    (pick (ltb op 0x70) invoke_super
    (pick (ltb op 0x71) invoke_direct
    (pick (ltb op 0x72) invoke_static
    (pick (ltb op 0x73) invoke_interface
    (pick (ltb op 0x74) unused
    (pick (ltb op 0x75) invoke_virtual
    (pick (ltb op 0x76) invoke_super
    (pick (ltb op 0x77) invoke_direct
    (pick (ltb op 0x78) invoke_static
    (pick (ltb op 0x79) invoke_interface
    (pick (ltb op 0x7b) unused
    (pick (ltb op 0x90) unop
    (pick (ltb op 0xd0) binop
    (pick (ltb op 0xe3) binop_lit unused))))))))))))))))))))))))))))))))))))))))))))

-- the length of an opcode's format on Android's page: 10x 12x 11n 11x 10t have 1 unit; 20t 22x 21t 21s 21h 21c 23x 22b 22t 22s
-- 22c have 2; 30t 32x 31i 31t 31c 35c 3rc have 3; 51l has 5. "0 for unused"
unfoldable pub length_of : ℕ → ℕ
length_of op =
    pick (ltb op 0x02) 1
    (pick (ltb op 0x03) 2
    (pick (ltb op 0x04) 3
    (pick (ltb op 0x05) 1
    (pick (ltb op 0x06) 2
    (pick (ltb op 0x07) 3
    (pick (ltb op 0x08) 1
    (pick (ltb op 0x09) 2
    (pick (ltb op 0x0a) 3
    (pick (ltb op 0x13) 1
    (pick (ltb op 0x14) 2
    (pick (ltb op 0x15) 3
    (pick (ltb op 0x17) 2
    (pick (ltb op 0x18) 3
    (pick (ltb op 0x19) 5
    (pick (ltb op 0x1b) 2
    (pick (ltb op 0x1c) 3
    (pick (ltb op 0x1d) 2
    (pick (ltb op 0x1f) 1
    (pick (ltb op 0x21) 2
    (pick (ltb op 0x22) 1
    (pick (ltb op 0x24) 2
    (pick (ltb op 0x27) 3
    (pick (ltb op 0x29) 1
    (pick (ltb op 0x2a) 2
    (pick (ltb op 0x2d) 3
    (pick (ltb op 0x3e) 2
    (pick (ltb op 0x44) 0
    (pick (ltb op 0x6e) 2
    (pick (ltb op 0x73) 3
    (pick (ltb op 0x74) 0
    (pick (ltb op 0x79) 3
    (pick (ltb op 0x7b) 0
    (pick (ltb op 0x90) 1
    (pick (ltb op 0xb0) 2
    (pick (ltb op 0xd0) 1
    (pick (ltb op 0xe3) 2 0))))))))))))))))))))))))))))))))))))

-- a table has an entry for each opcode: sixteen times the number of its generalized instruction, and its length
abbrev pub Entries : List ℕ → Type 0
Entries table = (op : ℕ) → op < 256 → (get_or table op 0 % 16 ≡ length_of op) × (get_or table op 0 / 16 ≡ group_number (group_of op))
