pub mod Resolved
pub mod MainMethod
pub mod OwnFields
pub mod Called
pub mod MembersApart
pub mod NearestBody
pub mod Running
