-- Of a failed reading the name is noted, and no other one.
use Rattle.std.proofs.Common.{◌≡◌, [], ◌∷◌, ◌++◌, refl, arith}
use Rattle.std.proofs.lemmas.Grind.{common_steps}
use Rattle.vss_io.proofs.CountLaws.{count_of-never_falls, count_of-other}
use Rattle.vss_io.proofs.mem_shelf.MemShelfShelf.read_file.Goals as goal

pub returns-else-is_err-clause-keeps : goal.returns-else-is_err-clause-keeps
returns-else-is_err-clause-keeps c =
    let noted : c.note.new.self.failed ≡ c.args.self.now.failed ++ c.args.name.now ∷ [] = grind (arith, common_steps) in
    record {
      same_tells = refl;
      same_files = λ other. grind (arith, common_steps);
      never_falls = λ other. rw noted (count_of-never_falls c.args.self.now.failed c.args.name.now other);
      others = λ tells other differ. rw noted (count_of-other c.args.self.now.failed c.args.name.now other (differ 0 [] (omega arith)));
    }
