use Rattle.std.proofs.Common.{◌≡◌, map, take}
use Rattle.std.specs.Prelude.{string_bytes}
use Rattle.std.specs.Process.{command_program, command_args}
use Rattle.mb_os.proofs.children.command_of.Given as goal

abbrev pub invariant-loop-word : goal.invariant-loop-word
invariant-loop-word l = record {
  program : command_program l.command ≡ l.path;
  words : command_args l.command ≡ map string_bytes (take l.word-index l.words);
}
