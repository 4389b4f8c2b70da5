-- What is said of a result, said otherwise.
use Rattle.std.proofs.Common.{Result, Ok, Err}
use Rattle.std.specs.Prelude.{IfOk, IfErr}

pub if_ok_by : {B F : Type 0} (P Q : B → Type 0) (o : Result B F) → ((b : B) → P b → Q b) → IfOk o P → IfOk o Q
if_ok_by P Q (Ok b) f so = f b so
if_ok_by P Q (Err e) f so = tt

pub if_err_by : {B F : Type 0} (P Q : F → Type 0) (o : Result B F) → ((e : F) → P e → Q e) → IfErr o P → IfErr o Q
if_err_by P Q (Ok b) f so = tt
if_err_by P Q (Err e) f so = f e so
