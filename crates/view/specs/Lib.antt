-- What a node allows and sees, as the code keeps it.
pub mod View
